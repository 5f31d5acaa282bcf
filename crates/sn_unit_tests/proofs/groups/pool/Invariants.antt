use Rattle.std.proofs.Common.{◌≡◌, length}
use Rattle.sn_unit_tests.proofs.groups.pool.Given as goal

abbrev pub invariant-loop-number : goal.invariant-loop-number
invariant-loop-number l = length l.packets.items ≡ l.number
