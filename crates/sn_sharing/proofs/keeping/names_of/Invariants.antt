use Rattle.std.proofs.Common.{length}
use Rattle.sn_sharing.proofs.Emptying.{EmptiedTo}
use Rattle.sn_sharing.proofs.keeping.names_of.Given as goal

-- what was held first is what is held and what is listed
abbrev pub invariant-loop-place : goal.invariant-loop-place
invariant-loop-place l = EmptiedTo l.fn.hold l.hold l.names.items

abbrev pub decreases-loop-place : goal.decreases-loop-place
decreases-loop-place l = length l.hold.free
