use Rattle.std.proofs.Common.{drop}
use Rattle.sn_network.specs.Left.{queued_in}
use Rattle.sn_network.proofs.Cut.{Adds}
use Rattle.sn_network.proofs.left.queued_packets.Given as goal

-- the packets so far, and those at the keys to come
abbrev pub invariant-loop-key : goal.invariant-loop-key
invariant-loop-key l = Adds 18446744073709551615 queued_in l.links.slots (drop l.key l.links.slots) l.total
