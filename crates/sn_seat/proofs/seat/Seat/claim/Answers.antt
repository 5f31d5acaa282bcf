use Rattle.std.proofs.Common.{rules, refl, sym, ◌≡◌, Err, Ok}
use Rattle.sn_app.specs.Rows.{refill_one}
use Rattle.sn_app.proofs.OnTrays.{halt_lost, leaves_then}
use Rattle.sn_seat.specs.Trays.{captures_of}
use Rattle.sn_seat.proofs.ClaimRows.{claim_fails, claim_reads, leaves_claimed, leaves_gated, leaves_same}
use Rattle.sn_seat.proofs.Gating.{gate_read}
use Rattle.sn_seat.proofs.LaneRows.{lost_same}
use Rattle.sn_seat.proofs.seat.Seat.claim.Goals as goal

pub returns-in_err-room_for_one-clause-reads : goal.returns-in_err-room_for_one-clause-reads
returns-in_err-room_for_one-clause-reads g c =
    rw (halt_lost c.from_residual.result c.from_residual.ensures.1)
    (lost_same refill_one _ _ (c.room_for_one.ensures.tray (captures_of c.args.shared.now)))

pub returns-in_err-room_for_one-clause-leaves : goal.returns-in_err-room_for_one-clause-leaves
returns-in_err-room_for_one-clause-leaves g c = leaves_same _ _ (c.room_for_one.ensures.tray (captures_of c.args.shared.now))

pub returns-in_err-gate-clause-reads : goal.returns-in_err-gate-clause-reads
returns-in_err-gate-clause-reads g c =
    let caps = captures_of c.args.shared.now in
    let is : c.from_residual-in_err-gate.result ≡ Err c.in_err-gate.field-0.0 = search rules in
    rw (is, sym (c.room_for_one.ensures.tray caps))
    (claim_fails (gate_read caps c.room_for_one.new.self c.gate.new.self _ c.in_err-gate.ensures.step))

pub returns-in_err-gate-clause-leaves : goal.returns-in_err-gate-clause-leaves
returns-in_err-gate-clause-leaves g c =
    let caps = captures_of c.args.shared.now in
    rw (sym (c.room_for_one.ensures.tray caps))
    (leaves_gated caps c.room_for_one.new.self c.gate.new.self (Err c.in_err-gate.field-0.0) c.in_err-gate.ensures.step)

pub returns-clause-reads : goal.returns-clause-reads
returns-clause-reads g c =
    let caps = captures_of c.args.shared.now in
    rw (sym (c.room_for_one.ensures.tray caps))
    (claim_reads (gate_read caps c.room_for_one.new.self c.gate.new.self _ c.in_ok-gate.ensures.step) refl (λ e. refl)
    c.claim_one.result (c.claim_one.ensures.step caps))

pub returns-clause-leaves : goal.returns-clause-leaves
returns-clause-leaves g c =
    let caps = captures_of c.args.shared.now in
    rw (sym (c.room_for_one.ensures.tray caps))
    (leaves_then (leaves_gated caps c.room_for_one.new.self c.gate.new.self (Ok tt) c.in_ok-gate.ensures.step)
    (leaves_claimed _ _ c.claim_one.result (c.claim_one.ensures.step caps)))
