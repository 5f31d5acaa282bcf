use Rattle.std.proofs.Common.{List, map, ap, sym, ◌∙◌, Option, arith}
use Rattle.atomic_table.specs.declared.shared.Seat.{Seat}
use Rattle.sn_packet.specs.Packet.{PacketState}
use Rattle.sn_group.specs.declared.view.View.{View}
use Rattle.sn_group.specs.Cells.{named, weigh}
use Rattle.sn_group.specs.Views.{logs_in, all_gained, all_given}
use Rattle.sn_group.specs.Seats.{GroupState}
use Rattle.sn_group.proofs.Closing.{closing}
use Rattle.sn_group.proofs.group.Group.close.Goals as goal

abbrev CellSeat : Type 0
CellSeat = Seat (Option PacketState) View

pub returns-clause-balance : goal.returns-clause-balance
returns-clause-balance c = λ h.
    let all = c.gather-whole.ensures.all in
    let parts = all.parts ∙ (c.requires.all ∙ sym (ap (λ (g : GroupState). g.seats) c.self.view_is)) in
    let done = closing _ _ _ _ _ _ _ c.close_with-closed.ensures.values.2 parts all.cells h in
    let opened = ap (λ (g : GroupState). weigh h g.opened) c.self.view_is in
    let given = ap (λ (t : CellSeat). all_given h (logs_in t.me.0)) c.of-logs.ensures in
    let gained = ap (λ (t : CellSeat). all_gained h (logs_in t.me.0)) c.of-logs.ensures in
    let packets = ap (λ (l : List PacketState). weigh h (map named l)) c.collect.ensures in
    omega (arith, done, opened, given, gained, packets)
