use Rattle.std.proofs.Common.{Some, refl, sym}
use Rattle.sn_packet.specs.Hold.{slot_weight}
use Rattle.sn_packet.proofs.SlotSums.{sum_by-filled}
use Rattle.sn_packet.proofs.Views.{frees_put, updates_put, vacant_is_unlisted}
use Rattle.sn_packet.proofs.hold.Hold.lay.Goals as goal

pub returns-clause-weight : goal.returns-clause-weight
returns-clause-weight c =
    rw (sym c.self.view_is)
    (λ f. sum_by-filled (slot_weight f) refl c.self.inside.cells.slots c.insert_reserved.new.self.slots c.insert_reserved.result c.args.packet c.insert_reserved.ensures.was_vacant c.insert_reserved.ensures.updates.changed c.insert_reserved.ensures.updates.others)

pub returns-clause-laid : goal.returns-clause-laid
returns-clause-laid c =
    let unlisted = vacant_is_unlisted c.self.inside.cells.slots c.self.inside.free.items c.insert_reserved.result c.self.invariant.once c.insert_reserved.ensures.was_vacant in
    rw unlisted c.insert_reserved.ensures.updates.changed

pub returns-clause-frees : goal.returns-clause-frees
returns-clause-frees c =
    let old = c.self.inside.cells in
    let new = c.insert_reserved.new.self in
    let place = c.insert_reserved.result in
    rw (sym c.self.view_is)
    (frees_put old.slots new.slots c.self.inside.free.items place (Some c.args.packet)
    (updates_put old new place (Some c.args.packet) c.insert_reserved.ensures.updates)
    (vacant_is_unlisted old.slots c.self.inside.free.items place c.self.invariant.once c.insert_reserved.ensures.was_vacant))
