-- answers of src/closing.rt, Slot::close
use Rattle.std.proofs.Common.{List, [], ap, refl, subst, sym, ◌≡◌}
use Rattle.sn_app.specs.Desk.{Tray}
use Rattle.sn_app.specs.World.{desk_of, world}
use Rattle.sn_names.specs.declared.link.LinkSpec.{LinkSpec}
use Rattle.sn_network.specs.Networks.{world_of}
use Rattle.sn_network.specs.declared.network.Network.{Network}
use Rattle.sn_seat.specs.Trays.{captures_of, seat_tray, seat_used}
use Rattle.sn_wiring.specs.Links.{FitsRoster}
use Rattle.sn_wiring.specs.Lost.{lost}
use Rattle.sn_worker.specs.SlotViews.{slot_tray, slot_used}
use Rattle.sn_worker.specs.Workers.{world_around}
use Rattle.sn_worker.specs.declared.slot.Slot.{Slot}
use Rattle.sn_worker.specs.declared.worker.Worker.{Worker}
use Rattle.sn_worker.proofs.ClosingParts.{closes_read}
use Rattle.sn_worker.proofs.slot.Slot.close.Goals as goal

pub lose-requires-clause-network : goal.lose-requires-clause-network
lose-requires-clause-network g c = λ κs lives.
    let captures = captures_of c.args.shared.now in
    let rows : c.note.new.self.roster.links ≡ c.args.self.now.seat.roster.links =
    ap (λ (t : Tray). t.log.constants.roster.links) (c.in_ok-note.ensures.noted captures) in
    subst (λ (links : List LinkSpec). FitsRoster links c.take_network-network.result.links.slots) (sym rows)
    (subst (λ (network : Network). FitsRoster c.args.self.now.seat.roster.links network.links.slots)
    (sym c.take_network-network.ensures.network) c.requires.can.works.breathes.stands.links.fits)

pub returns-clause-reads : goal.returns-clause-reads
returns-clause-reads g c =
    let captures = captures_of c.args.shared.now in
    let gone = c.lose.new.self.seat in
    let noted = c.note.new.self in
    closes_read (slot_tray captures c.args.self.now) (seat_tray captures noted) (seat_tray captures gone)
    (seat_tray captures c.reclaim.new.seat) (slot_used c.args.self.now) (seat_used noted) (seat_used gone)
    (seat_used c.reclaim.new.seat) c.args.self.now.worker.network.links.slots _
    (c.in_ok-note.ensures.noted captures) refl c.in_ok-note.ensures.used
    (subst (λ (network : Network). desk_of (world (seat_tray captures gone) (seat_used gone) [])
    ≡ lost (desk_of (world_of network (seat_used noted) (seat_tray captures noted)))) c.take_network-network.ensures.network
    c.lose.ensures.lost)
    c.in_ok-reclaim.ensures.reads
    (subst (λ (worker : Worker). world_around worker (seat_used c.reclaim.new.seat) (seat_tray captures c.reclaim.new.seat)
    ≡ world (seat_tray captures c.reclaim.new.seat) (seat_used c.reclaim.new.seat) [])
    (sym (ap (λ (slot : Slot). slot.worker) c.lose.ensures.same))
    (c.take_network-network.ensures.queues (seat_used c.reclaim.new.seat) (seat_tray captures c.reclaim.new.seat)))
