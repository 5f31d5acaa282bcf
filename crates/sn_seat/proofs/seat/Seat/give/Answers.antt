use Rattle.std.proofs.Common.{rules, refl, sym, ap, subst, ◌≡◌, ◌∙◌, ◌∷◌, ◌++◌, [], Err, Ok, IsSome}
use Rattle.sn_packet.specs.Hold.{at_of, used_of}
use Rattle.sn_packet.specs.Packet.{is_worn}
use Rattle.sn_app.specs.Desk.{name_of}
use Rattle.sn_app.specs.Rows.{row_give}
use Rattle.sn_app.specs.World.{packet_at}
use Rattle.sn_app.proofs.OnTrays.{halt_lost, leaves_then}
use Rattle.sn_seat.specs.GiveSteps.{gave_entry}
use Rattle.sn_seat.specs.SeatEnds.{ends_in, wires}
use Rattle.sn_seat.specs.Trays.{captures_of, seat_used}
use Rattle.sn_seat.proofs.ClaimRows.{leaves_gated, leaves_noted, leaves_same}
use Rattle.sn_seat.proofs.Gating.{gate_read}
use Rattle.sn_seat.proofs.GiveRows.{give_fails, give_reads}
use Rattle.sn_seat.proofs.LaneRows.{lost_same}
use Rattle.sn_seat.proofs.TrayParts.{tray_same}
use Rattle.sn_seat.proofs.seat.Seat.give.Goals as goal

pub returns-then-worn-clause-reads : goal.returns-then-worn-clause-reads
returns-then-worn-clause-reads g c = c.keep_worn.ensures.reads (captures_of c.args.shared.now)

pub returns-then-worn-clause-leaves : goal.returns-then-worn-clause-leaves
returns-then-worn-clause-leaves g c = c.keep_worn.ensures.leaves (captures_of c.args.shared.now)

pub returns-in_err-room_for_one-clause-reads : goal.returns-in_err-room_for_one-clause-reads
returns-in_err-room_for_one-clause-reads g c =
    rw (halt_lost c.from_residual.result c.from_residual.ensures.1)
    (lost_same (row_give (name_of (packet_at (seat_used c.args.self.now) c.args.place))) _ _
    (c.room_for_one.ensures.tray (captures_of c.args.shared.now)))

pub returns-in_err-room_for_one-clause-leaves : goal.returns-in_err-room_for_one-clause-leaves
returns-in_err-room_for_one-clause-leaves g c = leaves_same _ _ (c.room_for_one.ensures.tray (captures_of c.args.shared.now))

pub returns-in_err-gate-clause-reads : goal.returns-in_err-gate-clause-reads
returns-in_err-gate-clause-reads g c =
    let caps = captures_of c.args.shared.now in
    let is : c.from_residual-in_err-gate.result ≡ Err c.in_err-gate.field-0.0 = search rules in
    rw (is, sym (c.room_for_one.ensures.tray caps))
    (give_fails (name_of (packet_at (seat_used c.args.self.now) c.args.place)) (sym c.worn.ensures ∙ c.if-worn.false)
    (gate_read caps c.room_for_one.new.self c.gate.new.self _ c.in_err-gate.ensures.step))

pub returns-in_err-gate-clause-leaves : goal.returns-in_err-gate-clause-leaves
returns-in_err-gate-clause-leaves g c =
    let caps = captures_of c.args.shared.now in
    rw (sym (c.room_for_one.ensures.tray caps))
    (leaves_gated caps c.room_for_one.new.self c.gate.new.self (Err c.in_err-gate.field-0.0) c.in_err-gate.ensures.step)

pub give-gave-requires-clause-place : goal.give-gave-requires-clause-place
give-gave-requires-clause-place g c =
    let same = ap used_of c.gate.ensures.hold ∙ c.room_for_one.ensures.used in
    subst (λ u. IsSome (u c.args.place)) (sym same) c.requires.place

pub give-gave-requires-clause-worn : goal.give-gave-requires-clause-worn
give-gave-requires-clause-worn g c =
    let same = ap used_of c.gate.ensures.hold ∙ c.room_for_one.ensures.used in
    ap (λ u. is_worn (packet_at u c.args.place)) same ∙ (sym c.worn.ensures ∙ c.if-worn.false)

pub returns-clause-reads : goal.returns-clause-reads
returns-clause-reads g c =
    let caps = captures_of c.args.shared.now in
    let u = c.gate.new.self in
    let l = c.give-gave.ensures in
    let p = packet_at (seat_used c.args.self.now) c.args.place in
    let same = ap used_of c.gate.ensures.hold ∙ c.room_for_one.ensures.used in
    let noted = l.entries
    ∙ ap (λ z. u.ledger.journal.entries ++ gave_entry (packet_at z c.args.place) c.give-gave.result ∷ []) same in
    let now = tray_same u.stops.items u.roster caps _ _ _ _ 0 0 _ _ _ _ u.counters u.files.items
    (ap (λ e. wires e.items) l.ends) noted refl l.frees (ap (λ e. ends_in e.items) l.ends) in
    rw (sym (c.room_for_one.ensures.tray caps))
    (give_reads p c.give-gave.result (sym c.worn.ensures ∙ c.if-worn.false)
    (gate_read caps c.room_for_one.new.self u _ c.in_ok-gate.ensures.step) refl (λ e. refl) l.fresh now)

pub returns-clause-leaves : goal.returns-clause-leaves
returns-clause-leaves g c =
    let caps = captures_of c.args.shared.now in
    let u = c.gate.new.self in
    let l = c.give-gave.ensures in
    let now = tray_same u.stops.items u.roster caps _ _ _ _ 0 0 _ _ _ _ u.counters u.files.items
    (ap (λ e. wires e.items) l.ends) l.entries refl l.frees (ap (λ e. ends_in e.items) l.ends) in
    rw (sym (c.room_for_one.ensures.tray caps))
    (leaves_then (leaves_gated caps c.room_for_one.new.self u (Ok tt) c.in_ok-gate.ensures.step) (leaves_noted _ _ _ now))

pub returns-then-worn-clause-held : goal.returns-then-worn-clause-held
returns-then-worn-clause-held g c = λ q differs. ap (λ slots. slots q) c.keep_worn.ensures.held

pub returns-in_err-room_for_one-clause-held : goal.returns-in_err-room_for_one-clause-held
returns-in_err-room_for_one-clause-held g c = λ q differs. ap (λ slots. slots q) c.room_for_one.ensures.held

pub returns-in_err-gate-clause-held : goal.returns-in_err-gate-clause-held
returns-in_err-gate-clause-held g c = λ q differs.
    ap (λ hold. at_of hold q) c.gate.ensures.hold ∙ ap (λ slots. slots q) c.room_for_one.ensures.held

pub returns-clause-held : goal.returns-clause-held
returns-clause-held g c = λ q differs.
    c.give-gave.ensures.held q differs
    ∙ (ap (λ hold. at_of hold q) c.gate.ensures.hold ∙ ap (λ slots. slots q) c.room_for_one.ensures.held)
