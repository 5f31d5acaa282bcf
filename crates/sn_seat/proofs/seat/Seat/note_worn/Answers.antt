use Rattle.std.proofs.Common.{◌≡◌, ◌∙◌, ap, ap₂, sym}
use Rattle.sn_journal.specs.declared.entry.Entry.TheVariants.{Worn}
use Rattle.sn_app.specs.Desk.{after_entry}
use Rattle.sn_app.specs.World.{packet_at}
use Rattle.sn_app.proofs.Gaining.{lifted}
use Rattle.sn_seat.specs.Trays.{seat_tray, seat_used}
use Rattle.sn_seat.proofs.Outcomes.{on_ok_then}
use Rattle.sn_seat.proofs.seat.Seat.note_worn.Goals as goal

pub returns-clause-noted : goal.returns-clause-noted
returns-clause-noted c =
    let s = c.args.self.now in
    let p = packet_at (seat_used s) c.args.place in
    let is : p ≡ c.packet-packet.result.now = lifted s.ledger.hold c.args.place c.packet-packet.result.now c.requires.place
    c.packet-packet.ensures in
    let entry = ap₂ (λ m n. Worn m n) (c.number.ensures.value ∙ ap (λ q. q.number) (sym is))
    (c.turn.ensures.value ∙ ap (λ q. q.turn) (sym is)) in
    on_ok_then c.note.result
    (λ noted. λ captures. noted captures ∙ ap (λ e. after_entry e (seat_tray captures s)) entry) c.note.ensures.noted
