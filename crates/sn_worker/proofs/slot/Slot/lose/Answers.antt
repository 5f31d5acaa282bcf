-- answers of src/closing.rt, Slot::lose
use Rattle.std.proofs.Common.{ap, sym, ◌∙◌}
use Rattle.sn_seat.proofs.Lending.{same_bond, same_name}
use Rattle.sn_seat.specs.Trays.{bond_of, captures_of}
use Rattle.sn_worker.proofs.ClosingParts.{lost_over}
use Rattle.sn_worker.proofs.slot.Slot.lose.Goals as goal

pub shape_of-self : goal.shape_of-self
shape_of-self g c = sym (same_name _ _ _ _ c.lose.ensures.lent ∙ c.live-live.ensures.lent)

pub returns-clause-lost : goal.returns-clause-lost
returns-clause-lost g c =
    lost_over c.args.network c.args.self.now.seat c.live-live.result.seat.now c.lose.new.ctx.seat.now
    (captures_of c.args.shared.now) (captures_of c.live-live.result.shared.now) (captures_of c.lose.new.ctx.shared.now)
    c.live-live.ensures.seat (ap captures_of c.live-live.ensures.shared) c.lose.ensures.lost

pub returns-clause-bond : goal.returns-clause-bond
returns-clause-bond g c = same_bond _ _ _ _ c.lose.ensures.lent ∙ ap bond_of c.live-live.ensures.seat
