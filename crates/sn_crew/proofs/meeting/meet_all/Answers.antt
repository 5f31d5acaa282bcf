use Rattle.std.proofs.Common.{◌∙◌, ◌<◌, length, refl, ap, arith}
use Rattle.std.proofs.lemmas.List.{length-set}
use Rattle.std.proofs.lemmas.Option.{slice_get-get_or, slice_get_within}
use Rattle.sn_scenario.specs.declared.settings.Settings.{Settings}
use Rattle.sn_crew.specs.Crews.{PlaceAfter, PlaceUnmet}
use Rattle.sn_crew.proofs.OneMore.{done_more, still_to_do}
use Rattle.sn_crew.proofs.meeting.meet_all.Goals as goal

pub loop-worker-init : goal.loop-worker-init
loop-worker-init c = record {
  met = λ n x there lt. absurd (omega (arith, lt));
  unmet = λ n x there le. c.requires.unmet n x there;
  len = refl;
  said = refl;
}

pub meet_one-requires-clause-unmet : goal.meet_one-requires-clause-unmet
meet_one-requires-clause-unmet c =
    let l = c.loop-worker in
    let workers = ap (λ (s : Settings). s.workers) c.settings-workers.ensures.same in
    let within : l.worker < length l.places =
    omega (arith, c.loop-worker-test.true, l.invariant.len, c.requires.workers, workers) in
    l.invariant.unmet l.worker _ (slice_get-get_or l.places l.worker c.index-places-worker.result within) (omega (arith))

pub loop-worker-preserved : goal.loop-worker-preserved
loop-worker-preserved c =
    let l = c.loop-worker in
    let form = c.args.scenario.now in
    let shared = c.args.shared.now in
    let new = c.meet_one.new.place in
    record {
      met = done_more (PlaceAfter form shared c.args.rounds) l.worker l.places new l.invariant.met c.meet_one.ensures.after;
      unmet = still_to_do (PlaceUnmet form shared c.args.rounds) l.worker l.places new l.invariant.unmet;
      len = length-set l.places l.worker new ∙ l.invariant.len;
      said = c.meet_one.ensures.speakers ∙ l.invariant.said;
    }

pub returns-clause-after : goal.returns-clause-after
returns-clause-after c =
    let l = c.loop-worker in
    let workers = ap (λ (s : Settings). s.workers) c.settings-workers.ensures.same in
    λ n x there. l.invariant.met n x there
    (omega (arith, slice_get_within l.places n x there, l.invariant.len, c.requires.workers, c.loop-worker-test.false, workers))
