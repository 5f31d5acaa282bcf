use Rattle.std.proofs.Common.{subst, ◌∙◌}
use Rattle.sn_sharing.proofs.SeatTurns.{parts_more}
use Rattle.sn_sharing.proofs.Yielded.{all_yielded}
use Rattle.sn_sharing.specs.Columns.{AreParts}
use Rattle.sn_sharing.proofs.apart.take_apart.Goals as goal

pub loop-seat-preserved : goal.loop-seat-preserved
loop-seat-preserved c =
    parts_more c.loop-seat.yielded c.loop-seat.apart c.add_seat.new.apart c.in-Some.seat c.loop-seat.invariant
    c.in_ok-add_seat.ensures

pub returns : goal.returns
returns c =
    let from = c.into_iter-seat-iterator.ensures.into_iter_gives in
    subst (λ l. AreParts l c.loop-seat.apart)
    (all_yielded c.args.seats.items c.into_iter-seat-iterator.result c.loop-seat.seat-iterator c.next.new.self c.loop-seat.yielded
    c.next.result from.0 (from.1 ∙ c.args.seats.ok.0) c.loop-seat.yielded_by c.in-None.is c.next.ensures.steps)
    c.loop-seat.invariant
