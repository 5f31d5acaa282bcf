use Rattle.std.proofs.Common.{◌≡◌, ◌<◌, ◌∙◌, None, ap, length, sym}
use Rattle.std.proofs.lemmas.List.{get_or_read}
use Rattle.sn_packet.specs.Packet.{PacketState}
use Rattle.sn_app.specs.Rows.{row_file_append}
use Rattle.sn_app.specs.World.{packet_at}
use Rattle.sn_app.proofs.Filing.{lost_filed, row_added, started_within}
use Rattle.sn_app.proofs.Gaining.{lifted}
use Rattle.sn_app.proofs.OnTrays.{halt_lost}
use Rattle.sn_seat.specs.Trays.{seat_tray, seat_used}
use Rattle.sn_seat.proofs.seat.Seat.file_append.Goals as goal

pub returns-clause-reads : goal.returns-clause-reads
returns-clause-reads c =
    λ captures.
    let b = c.args.self.now in
    let within : c.args.file < length b.files.items = started_within b.files.items c.args.file c.requires.file in
    let there = get_or_read b.files.items c.args.file c.index_mut.result.now within c.index_mut.ensures.value None in
    let packet : PacketState = packet_at (seat_used b) c.args.place in
    let is : packet ≡ c.packet.result.now = lifted b.ledger.hold c.args.place c.packet.result.now c.requires.place
    c.packet.ensures in
    row_added c.in_ok-append.field-0 (seat_tray captures b) c.args.file packet c.bytes-payload.result.now c.index_mut.result.now
    c.append.new.self there (c.bytes-payload.ensures.value ∙ ap (λ (p : PacketState). p.bytes) (sym is))
    c.in_ok-append.ensures.fits c.in_ok-append.ensures.bytes

pub returns-in_err-append-clause-reads : goal.returns-in_err-append-clause-reads
returns-in_err-append-clause-reads c =
    λ captures.
    let b = c.args.self.now in
    let within : c.args.file < length b.files.items = started_within b.files.items c.args.file c.requires.file in
    let there = get_or_read b.files.items c.args.file c.index_mut.result.now within c.index_mut.ensures.value None in
    rw (halt_lost c.from_residual.result c.from_residual.ensures.1)
    (lost_filed (row_file_append c.args.file (packet_at (seat_used b) c.args.place)) (seat_tray captures b) c.args.file
    c.append.new.self (c.in_err-append.ensures.refused ∙ there))
