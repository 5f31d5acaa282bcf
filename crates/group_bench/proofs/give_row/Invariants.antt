use Rattle.std.proofs.Common.{vec_len}
use Rattle.sn_group.specs.Seats.{IsAtRest}
use Rattle.group_bench.proofs.give_row.Given as goal

abbrev pub invariant-loop-packets : goal.invariant-loop-packets
invariant-loop-packets l = IsAtRest l.group.id l.seat

abbrev pub decreases-loop-packets : goal.decreases-loop-packets
decreases-loop-packets l = vec_len l.packets
