use Rattle.std.proofs.Common.{◌≡◌, length}
use Rattle.seat_rig.proofs.opening.packets_of.Given as goal

abbrev pub invariant-loop-number : goal.invariant-loop-number
invariant-loop-number l = length l.packets.items ≡ l.number
