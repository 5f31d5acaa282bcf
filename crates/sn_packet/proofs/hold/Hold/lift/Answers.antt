use Rattle.std.proofs.Common.{None, get_or, sym}
use Rattle.sn_packet.specs.Hold.{among}
use Rattle.sn_packet.proofs.FreePlaces.{used_is_unlisted}
use Rattle.sn_packet.proofs.Views.{frees_put, updates_put}
use Rattle.sn_packet.proofs.hold.Hold.lift.Goals as goal

pub returns-clause-frees : goal.returns-clause-frees
returns-clause-frees c =
    let old = c.self.inside.cells in
    let new = c.remove.new.self in
    let free = c.self.inside.free.items in
    let place = c.args.place in
    let used = rw (sym c.self.view_is) at c.requires in
    rw (sym c.self.view_is)
    (frees_put old.slots new.slots free place None (updates_put old new place None c.remove.ensures.updates)
    (used_is_unlisted (among free place) (get_or old.slots place None) used))
