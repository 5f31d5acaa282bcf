use Rattle.std.proofs.Common.{◌∙◌, ◌<◌, length, refl, arith}
use Rattle.std.proofs.lemmas.List.{length-set}
use Rattle.std.proofs.lemmas.Option.{slice_get-get_or, slice_get_within}
use Rattle.sn_crew.specs.Crews.{PlaceReady, PlaceWorked}
use Rattle.sn_crew.proofs.OneMore.{done_more, still_to_do}
use Rattle.sn_crew.proofs.rounds.work_in_order.Goals as goal

pub loop-worker-init : goal.loop-worker-init
loop-worker-init g c = record {
  worked = λ n x there lt. absurd (omega (arith, lt));
  ready = λ n x there le. c.requires.ready n x there;
  len = refl;
}

pub work-requires-clause-ready : goal.work-requires-clause-ready
work-requires-clause-ready g c κs outlives =
    let l = c.loop-worker in
    let within : l.worker < length l.places = omega (arith, c.loop-worker-test.true, l.invariant.len) in
    l.invariant.ready l.worker _ (slice_get-get_or l.places l.worker c.index-places-worker.result within) (omega (arith))

pub loop-worker-preserved : goal.loop-worker-preserved
loop-worker-preserved g c =
    let l = c.loop-worker in
    let form = c.args.scenario.now in
    let shared = c.args.shared.now in
    let new = c.work.new.self in
    record {
      worked = done_more (PlaceWorked form shared c.args.rounds) l.worker l.places new l.invariant.worked c.work.ensures;
      ready = still_to_do (PlaceReady form shared c.args.rounds) l.worker l.places new l.invariant.ready;
      len = length-set l.places l.worker new ∙ l.invariant.len;
    }

pub returns-clause-worked : goal.returns-clause-worked
returns-clause-worked g c =
    let l = c.loop-worker in
    λ n x there. l.invariant.worked n x there
    (omega (arith, slice_get_within l.places n x there, l.invariant.len, c.loop-worker-test.false))
