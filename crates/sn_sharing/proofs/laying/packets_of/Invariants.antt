use Rattle.std.proofs.Common.{◌≡◌, map}
use Rattle.sn_group.specs.Cells.{named}
use Rattle.sn_sharing.specs.Pools.{pool_packets}
use Rattle.sn_sharing.proofs.laying.packets_of.Given as goal

-- the packets so far are the first of the pool
abbrev pub invariant-loop-number : goal.invariant-loop-number
invariant-loop-number l = map named l.packets.items ≡ pool_packets l.number
