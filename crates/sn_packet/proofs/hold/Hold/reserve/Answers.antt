use Rattle.std.proofs.Common.{ap, arith}
use Rattle.slab.specs.Slab.{slab_len}
use Rattle.sn_packet.proofs.FreePlaces.{few_free}
use Rattle.sn_packet.proofs.hold.Hold.reserve.Goals as goal

pub overflow_sub-len : goal.overflow_sub-len
overflow_sub-len c =
    let few = few_free c.self.inside.cells.slots c.self.inside.free.items c.self.invariant.once in
    omega (arith, few, c.len.ensures, c.len-2.ensures, ap slab_len c.in_ok-reserve.ensures.rest_kept, c.self.inside.free.ok.0)
