use Rattle.std.proofs.Common.{rules, ◌≡◌, Err, Ok}
use Rattle.sn_seat.specs.Trays.{captures_of}
use Rattle.sn_seat.proofs.DetachRows.{detach_fails, detach_gated, leaves_on}
use Rattle.sn_seat.proofs.Gating.{gate_read}
use Rattle.sn_seat.proofs.LaneRows.{leaves_gated}
use Rattle.sn_seat.proofs.seat.Seat.bring_down.Goals as goal

pub returns-in_err-gate-clause-reads : goal.returns-in_err-gate-clause-reads
returns-in_err-gate-clause-reads g c =
    let is : c.from_residual.result ≡ Err c.in_err-gate.field-0.0 = search rules in
    rw is (detach_fails c.args.lane c.args.side c.requires.up
    (gate_read (captures_of c.args.shared.now) c.args.self.now c.gate.new.self _ c.in_err-gate.ensures.step))

pub returns-in_err-gate-clause-leaves : goal.returns-in_err-gate-clause-leaves
returns-in_err-gate-clause-leaves g c =
    leaves_gated c.args.lane c.args.side (captures_of c.args.shared.now) c.args.self.now c.gate.new.self
    (Err c.in_err-gate.field-0.0) c.in_err-gate.ensures.step

pub returns-clause-reads : goal.returns-clause-reads
returns-clause-reads g c =
    detach_gated c.args.lane c.args.side c.requires.up
    (gate_read (captures_of c.args.shared.now) c.args.self.now c.gate.new.self _ c.in_ok-gate.ensures.step) c.leave.ensures.reads

pub returns-clause-leaves : goal.returns-clause-leaves
returns-clause-leaves g c =
    leaves_on c.args.lane c.args.side _ _ _
    (leaves_gated c.args.lane c.args.side (captures_of c.args.shared.now) c.args.self.now c.gate.new.self (Ok tt)
    c.in_ok-gate.ensures.step) c.leave.ensures.leaves
