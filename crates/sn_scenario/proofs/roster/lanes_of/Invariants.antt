use Rattle.std.proofs.Common.{map, take, ◌≡◌}
use Rattle.sn_scenario.proofs.roster.lanes_of.Given as goal

abbrev pub invariant-loop-lane : goal.invariant-loop-lane
invariant-loop-lane l = l.names.items ≡ map (λ lane. lane.name) (take l.lane-index l.lanes)
