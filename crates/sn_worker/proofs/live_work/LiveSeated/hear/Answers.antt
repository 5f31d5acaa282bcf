-- answers of src/live_work.rt, hear of Seated
use Rattle.std.proofs.Common.{IfOk, sym, subst, ℕ, ◌≤◌}
use Rattle.sn_seat.specs.Trays.{bond_of}
use Rattle.sn_worker.proofs.SlotRounds.{floor_met}
use Rattle.sn_worker.proofs.live_work.LiveSeated.hear.Goals as goal

pub returns-clause-met : goal.returns-clause-met
returns-clause-met g c =
    subst (λ (least : ℕ). IfOk c.hear.result (λ n. least ≤ n))
    (sym (floor_met c.args.self.now.seat.ghost_name (bond_of c.args.self.now.seat.now))) c.hear.ensures.met
