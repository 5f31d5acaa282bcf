use Rattle.std.proofs.Common.{◌≡◌, map, take}
use Rattle.sn_core.specs.Lane.{free_lane}
use Rattle.sn_core.proofs.machine.free_lanes.Given as goal

abbrev pub invariant-loop-ends : goal.invariant-loop-ends
invariant-loop-ends l = l.free.items ≡ map (λ ends. free_lane ends.0 ends.1) (take l.ends-index l.lanes)
