use Rattle.std.proofs.Common.{rules, refl, sym, ap, subst, ◌≡◌, ◌∙◌, ◌∷◌, ◌++◌, [], Err, IsSome}
use Rattle.sn_packet.specs.Packet.{is_worn}
use Rattle.sn_app.specs.Desk.{after_entry, name_of}
use Rattle.sn_app.specs.World.{packet_at}
use Rattle.sn_seat.specs.GiveSteps.{gave_entry}
use Rattle.sn_seat.specs.SeatEnds.{ends_in, wires}
use Rattle.sn_seat.specs.Settling.{gives_back}
use Rattle.sn_seat.specs.Trays.{captures_of, seat_tray, seat_used}
use Rattle.sn_seat.proofs.ClaimRows.{leaves_noted, leaves_same}
use Rattle.sn_seat.proofs.GiveRows.{back_reads, worn_back_reads}
use Rattle.sn_seat.proofs.LaneRows.{lost_same}
use Rattle.sn_seat.proofs.TrayParts.{tray_same}
use Rattle.sn_seat.proofs.seat.Seat.give_back.Goals as goal

pub returns-then-worn-clause-reads : goal.returns-then-worn-clause-reads
returns-then-worn-clause-reads c =
    let s = c.args.self.now in
    let caps = captures_of c.args.shared.now in
    worn_back_reads (seat_tray caps s) _ (packet_at (seat_used s) c.args.place) (sym c.worn.ensures ∙ c.if-worn.true) refl
    (c.in_ok-note_worn.ensures.noted caps)

pub returns-then-worn-clause-leaves : goal.returns-then-worn-clause-leaves
returns-then-worn-clause-leaves c = leaves_noted _ _ _ (c.in_ok-note_worn.ensures.noted (captures_of c.args.shared.now))

pub returns-in_err-room_for_packet-clause-reads : goal.returns-in_err-room_for_packet-clause-reads
returns-in_err-room_for_packet-clause-reads c =
    let is : c.from_residual-in_err-room_for_packet.result ≡ Err c.in_err-room_for_packet.field-0.0 = search rules in
    rw is (lost_same (gives_back (name_of (packet_at (seat_used c.args.self.now) c.args.place))) _ _
    (c.room_for_packet.ensures.tray (captures_of c.args.shared.now)))

pub returns-in_err-room_for_packet-clause-leaves : goal.returns-in_err-room_for_packet-clause-leaves
returns-in_err-room_for_packet-clause-leaves c = leaves_same _ _ (c.room_for_packet.ensures.tray (captures_of c.args.shared.now))

pub give-gave-requires-clause-place : goal.give-gave-requires-clause-place
give-gave-requires-clause-place c = subst (λ u. IsSome (u c.args.place)) (sym c.room_for_packet.ensures.used) c.requires.place

pub give-gave-requires-clause-worn : goal.give-gave-requires-clause-worn
give-gave-requires-clause-worn c =
    ap (λ u. is_worn (packet_at u c.args.place)) c.room_for_packet.ensures.used ∙ (sym c.worn.ensures ∙ c.if-worn.false)

pub returns-clause-reads : goal.returns-clause-reads
returns-clause-reads c =
    let caps = captures_of c.args.shared.now in
    let u = c.room_for_packet.new.self in
    let l = c.give-gave.ensures in
    let p = packet_at (seat_used c.args.self.now) c.args.place in
    let noted = l.entries
    ∙ ap (λ z. u.ledger.journal.entries ++ gave_entry (packet_at z c.args.place) c.give-gave.result ∷ [])
    c.room_for_packet.ensures.used in
    let now = tray_same u.stops.items u.roster caps _ _ _ _ 0 0 _ _ _ _ u.counters u.files.items
    (ap (λ e. wires e.items) l.ends) noted refl l.frees (ap (λ e. ends_in e.items) l.ends) in
    rw (sym (c.room_for_packet.ensures.tray caps))
    (back_reads (seat_tray caps u) _ p c.give-gave.result (sym c.worn.ensures ∙ c.if-worn.false) (λ e. refl) l.fresh now)

pub returns-clause-leaves : goal.returns-clause-leaves
returns-clause-leaves c =
    let caps = captures_of c.args.shared.now in
    let u = c.room_for_packet.new.self in
    let l = c.give-gave.ensures in
    let now = tray_same u.stops.items u.roster caps _ _ _ _ 0 0 _ _ _ _ u.counters u.files.items
    (ap (λ e. wires e.items) l.ends) l.entries refl l.frees (ap (λ e. ends_in e.items) l.ends) in
    rw (sym (c.room_for_packet.ensures.tray caps)) (leaves_noted _ _ _ now)

pub returns-in_err-note_worn-clause-reads : goal.returns-in_err-note_worn-clause-reads
returns-in_err-note_worn-clause-reads c =
    let is : c.from_residual.result ≡ Err c.in_err-note_worn.field-0.0 = search rules in
    rw is (lost_same (gives_back (name_of (packet_at (seat_used c.args.self.now) c.args.place))) _ _
    (c.in_err-note_worn.ensures.refused (captures_of c.args.shared.now)))

pub returns-in_err-note_worn-clause-leaves : goal.returns-in_err-note_worn-clause-leaves
returns-in_err-note_worn-clause-leaves c = leaves_same _ _ (c.in_err-note_worn.ensures.refused (captures_of c.args.shared.now))

pub returns-in_err-note_worn-clause-held : goal.returns-in_err-note_worn-clause-held
returns-in_err-note_worn-clause-held c = λ q differs. ap (λ slots. slots q) c.note_worn.ensures.held

pub returns-then-worn-clause-noted : goal.returns-then-worn-clause-noted
returns-then-worn-clause-noted c = c.in_ok-note_worn.ensures.noted (captures_of c.args.shared.now)

pub returns-then-worn-clause-held : goal.returns-then-worn-clause-held
returns-then-worn-clause-held c = λ q differs. ap (λ slots. slots q) c.note_worn.ensures.held

pub returns-in_err-room_for_packet-clause-held : goal.returns-in_err-room_for_packet-clause-held
returns-in_err-room_for_packet-clause-held c = λ q differs. ap (λ slots. slots q) c.room_for_packet.ensures.held

pub returns-clause-noted : goal.returns-clause-noted
returns-clause-noted c =
    let caps = captures_of c.args.shared.now in
    let u = c.room_for_packet.new.self in
    let l = c.give-gave.ensures in
    let p = packet_at (seat_used c.args.self.now) c.args.place in
    let noted = l.entries
    ∙ ap (λ z. u.ledger.journal.entries ++ gave_entry (packet_at z c.args.place) c.give-gave.result ∷ [])
    c.room_for_packet.ensures.used in
    let now = tray_same u.stops.items u.roster caps _ _ _ _ 0 0 _ _ _ _ u.counters u.files.items
    (ap (λ e. wires e.items) l.ends) noted refl l.frees (ap (λ e. ends_in e.items) l.ends) in
    now ∙ ap (λ t. after_entry (gave_entry p c.give-gave.result) t) (c.room_for_packet.ensures.tray caps)

pub returns-clause-held : goal.returns-clause-held
returns-clause-held c = λ q differs. c.give-gave.ensures.held q differs ∙ ap (λ slots. slots q) c.room_for_packet.ensures.held
