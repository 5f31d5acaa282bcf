use Rattle.std.proofs.Common.{◌≤◌}
use Rattle.sn_group.specs.Seats.{IsAtRest}
use Rattle.sn_unit_tests.proofs.groups.take_and_give.Given as goal

abbrev pub invariant-loop : goal.invariant-loop
invariant-loop l = IsAtRest l.group.id l.seat × (l.given ≤ l.counter)
