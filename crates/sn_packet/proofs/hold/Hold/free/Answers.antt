use Rattle.std.proofs.Common.{sym, ap, ◌∙◌, arith, None, get_or}
use Rattle.sn_packet.specs.Hold.{among}
use Rattle.sn_packet.proofs.FreePlaces.{fewer_free, used_is_unlisted, used_is_held}
use Rattle.sn_packet.proofs.Views.{used_in, used_listed}
use Rattle.sn_packet.proofs.hold.Hold.free.Goals as goal

pub push_reserved-requires : goal.push_reserved-requires
push_reserved-requires c =
    let used = rw (sym c.self.view_is) at c.requires in
    let slots = c.self.inside.cells.slots in
    let places = c.self.inside.free.items in
    let count = among places c.args.place in
    let slot = get_or slots c.args.place None in
    let fewer = fewer_free slots places c.args.place c.self.invariant.once (used_is_unlisted count slot used) (used_is_held count slot used) in
    omega (arith, fewer, c.self.invariant.fits, c.self.inside.free.ok.0)

pub returns-clause-used : goal.returns-clause-used
returns-clause-used c =
    let used = rw (sym c.self.view_is) at c.requires in
    let slots = c.self.inside.cells.slots in
    let places = c.self.inside.free.items in
    let unlisted = used_is_unlisted (among places c.args.place) (get_or slots c.args.place None) used in
    rw (sym c.self.view_is)
    (ap (used_in slots) c.push_reserved.ensures.items ∙ used_listed slots places c.args.place unlisted)
