use Rattle.std.proofs.Common.{◌∙◌, length, subst}
use Rattle.sn_sharing.proofs.Yielded.{all_yielded, next_there}
use Rattle.sn_crew.specs.Endings.{LeaveSeats}
use Rattle.sn_crew.proofs.SeatsLeft.{seat_more}
use Rattle.sn_crew.proofs.leaving.close_slots.Goals as goal

pub close_slot-requires-after_bounds : goal.close_slot-requires-after_bounds
close_slot-requires-after_bounds g c κs within =
    let from = c.into_iter-place-iterator.ensures.into_iter_gives in
    c.requires (length c.loop-place.yielded) c.in-Some.place
    (next_there c.args.places.items c.into_iter-place-iterator.result c.loop-place.place-iterator c.next.new.self
    c.loop-place.yielded c.next.result c.in-Some.place from.0 (from.1 ∙ c.args.places.ok.0) c.loop-place.yielded_by c.in-Some.is
    c.next.ensures.steps)

pub loop-place-preserved : goal.loop-place-preserved
loop-place-preserved g c =
    let l = c.loop-place in
    rw c.in_ok-push.ensures.items
    (seat_more c.args.shared.now l.yielded l.seats.items c.in-Some.place c.in_ok-close_slot.field-0 l.invariant
    c.in_ok-close_slot.ensures)

pub returns : goal.returns
returns g c =
    let l = c.loop-place in
    let from = c.into_iter-place-iterator.ensures.into_iter_gives in
    subst (λ ps. LeaveSeats c.args.shared.now ps l.seats.items)
    (all_yielded c.args.places.items c.into_iter-place-iterator.result l.place-iterator c.next.new.self l.yielded c.next.result
    from.0 (from.1 ∙ c.args.places.ok.0) l.yielded_by c.in-None.is c.next.ensures.steps)
    l.invariant
