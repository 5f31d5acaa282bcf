use Rattle.sn_group.specs.Seats.{IsAtRest}
use Rattle.group_bench.proofs.take_row.Given as goal

abbrev pub invariant-loop : goal.invariant-loop
invariant-loop l = IsAtRest l.group.id l.seat
