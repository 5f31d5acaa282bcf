-- What is due so far with what is due of the configurations that are left is what is due of all; it fits.
use Rattle.std.proofs.Common.{count_by, drop, filter, take, ◌*◌, ◌+◌, ◌≡◌, ◌≤◌}
use Rattle.sn_scenario.specs.ConfigLines.{no_config, of_worker}
use Rattle.sn_scenario.specs.PlanLaws.{last_config}
use Rattle.sn_scenario.specs.Plans.{due_after}
use Rattle.sn_scenario.proofs.plan.due_from.Given as goal

abbrev pub invariant-loop-at : goal.invariant-loop-at
invariant-loop-at l = record {
  counted : due_after l.round no_config (filter (of_worker l.worker) l.placed) ≡ l.due + due_after l.round (last_config l.worker (take l.at l.placed)) (filter (of_worker l.worker) (drop l.at l.placed));
  fits : l.due + 4294967296 * count_by (of_worker l.worker) (drop l.at l.placed) ≤ 4294967296 * 64;
}
