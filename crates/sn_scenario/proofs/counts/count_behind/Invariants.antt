-- The last configuration so far with those to come is the last of all.
use Rattle.std.proofs.Common.{cond, drop, fold, ◌≡◌}
use Rattle.sn_scenario.specs.ConfigLines.{of_worker}
use Rattle.sn_scenario.specs.PlanLaws.{last_config}
use Rattle.sn_scenario.proofs.counts.count_behind.Given as goal

abbrev pub invariant-loop-other : goal.invariant-loop-other
invariant-loop-other l = fold (λ before other. cond (of_worker l.next.worker other) other.config before) l.before (drop l.other-index l.placed) ≡ last_config l.next.worker l.placed
