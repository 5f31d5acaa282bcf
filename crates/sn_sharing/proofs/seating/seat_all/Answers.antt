use Rattle.std.proofs.Common.{ap, get_or, length, subst, sym, ◌+◌, ◌-◌, ◌<◌, ◌≡◌, ◌∷◌, ◌++◌, ◌∙◌, [], refl, arith, map}
use Rattle.std.proofs.lemmas.List.{length-append}
use Rattle.std.proofs.lemmas.Option.{slice_get_within}
use Rattle.std.specs.List.{range_with_len, remove}
use Rattle.sn_group.specs.Seats.{SeatState, new_seat}
use Rattle.sn_sharing.proofs.SeatedTurns.{left_more, none_seated, seated_more}
use Rattle.sn_sharing.proofs.Yielded.{all_yielded, next_there}
use Rattle.sn_sharing.specs.Seating.{AddsWorker, AreSeated, seats_left}
use Rattle.sn_sharing.proofs.seating.seat_all.Goals as goal

pub loop-ends-init : goal.loop-ends-init
loop-ends-init c =
    let all : c.args.scenario.now.settings.workers ≡ c.args.scenario.now.settings.workers - 0 = omega arith in
    record {
      to =
          none_seated c.args.scenario.now c.args.group.now.id
          (record { channels = c.new.result; speakers = c.new-2.result; seats = c.new-3.result }) c.new.ensures.items
          c.new-2.ensures.items c.new-3.ensures.items;
      left = c.requires.groups ∙ ap (λ n. map (new_seat c.args.group.now.id) (range_with_len 0 n)) all;
    }

pub remove-requires : goal.remove-requires
remove-requires c =
    let from = c.into_iter-ends-iterator.ensures.into_iter_gives in
    let done = c.loop-ends.yielded in
    let at = next_there c.args.all.items c.into_iter-ends-iterator.result c.loop-ends.ends-iterator c.next.new.self done
    c.next.result c.in-Some.ends from.0 (from.1 ∙ c.args.all.ok.0) c.loop-ends.yielded_by c.in-Some.is c.next.ensures.steps in
    let within : length done < c.args.scenario.now.settings.workers =
    omega (arith, slice_get_within c.args.all.items (length done) c.in-Some.ends at, c.requires.workers) in
    let left = c.loop-ends.invariant.left
    ∙ left_more c.args.group.now.id c.args.scenario.now.settings.workers (length done) within in
    let many = ap length left in
    omega (arith, c.loop-ends.groups.ok.0, many)

pub seat_worker-requires : goal.seat_worker-requires
seat_worker-requires c =
    let from = c.into_iter-ends-iterator.ensures.into_iter_gives in
    let done = c.loop-ends.yielded in
    let at = next_there c.args.all.items c.into_iter-ends-iterator.result c.loop-ends.ends-iterator c.next.new.self done
    c.next.result c.in-Some.ends from.0 (from.1 ∙ c.args.all.ok.0) c.loop-ends.yielded_by c.in-Some.is c.next.ensures.steps in
    let within : length done < c.args.scenario.now.settings.workers =
    omega (arith, slice_get_within c.args.all.items (length done) c.in-Some.ends at, c.requires.workers) in
    let left = c.loop-ends.invariant.left
    ∙ left_more c.args.group.now.id c.args.scenario.now.settings.workers (length done) within in
    let seat : c.remove.result ≡ new_seat c.args.group.now.id (length done) =
    c.remove.ensures.value ∙ ap (λ l. get_or l 0 c.remove.result) left in
    record {
      worker = omega (arith, c.loop-ends.invariant.to.as_many, within);
      ends = c.requires.ends (length done) c.in-Some.ends at;
      group = subst (λ (s : SeatState). s ≡ new_seat s.group s.number) (sym seat) refl;
    }

pub loop-ends-preserved : goal.loop-ends-preserved
loop-ends-preserved c =
    let from = c.into_iter-ends-iterator.ensures.into_iter_gives in
    let done = c.loop-ends.yielded in
    let at = next_there c.args.all.items c.into_iter-ends-iterator.result c.loop-ends.ends-iterator c.next.new.self done
    c.next.result c.in-Some.ends from.0 (from.1 ∙ c.args.all.ok.0) c.loop-ends.yielded_by c.in-Some.is c.next.ensures.steps in
    let within : length done < c.args.scenario.now.settings.workers =
    omega (arith, slice_get_within c.args.all.items (length done) c.in-Some.ends at, c.requires.workers) in
    let left = c.loop-ends.invariant.left
    ∙ left_more c.args.group.now.id c.args.scenario.now.settings.workers (length done) within in
    let seat : c.remove.result ≡ new_seat c.args.group.now.id (length done) =
    c.remove.ensures.value ∙ ap (λ l. get_or l 0 c.remove.result) left in
    let more : length done + 1 ≡ length (done ++ c.in-Some.ends ∷ []) = omega (arith, length-append done (c.in-Some.ends ∷ [])) in
    record {
      to =
          seated_more c.args.scenario.now done c.args.group.now.id c.loop-ends.seated c.seat_worker.new.seated c.in-Some.ends
          c.loop-ends.invariant.to
          (subst (λ g. AddsWorker c.args.scenario.now c.in-Some.ends g c.loop-ends.seated c.seat_worker.new.seated)
          (ap (λ (s : SeatState). s.group) seat) c.in_ok-seat_worker.ensures);
      left =
          c.remove.ensures.items
          ∙ (ap (λ l. remove l 0) left
          ∙ ap (seats_left c.args.group.now.id c.args.scenario.now.settings.workers) more);
    }

pub returns : goal.returns
returns c =
    let from = c.into_iter-ends-iterator.ensures.into_iter_gives in
    subst (λ l. AreSeated c.args.scenario.now l c.args.group.now.id c.loop-ends.seated)
    (all_yielded c.args.all.items c.into_iter-ends-iterator.result c.loop-ends.ends-iterator c.next.new.self c.loop-ends.yielded
    c.next.result from.0 (from.1 ∙ c.args.all.ok.0) c.loop-ends.yielded_by c.in-None.is c.next.ensures.steps)
    c.loop-ends.invariant.to
