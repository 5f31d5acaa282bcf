use Rattle.std.proofs.Common.{◌≡◌, length}
use Rattle.group_bench.proofs.pool.Given as goal

abbrev pub invariant-loop-number : goal.invariant-loop-number
invariant-loop-number l = length l.packets.items ≡ l.number
