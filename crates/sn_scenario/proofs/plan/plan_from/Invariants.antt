-- The actions so far with those of the configurations that are left are those of all, and so are the laws.
use Rattle.std.proofs.Common.{drop, filter, ◌++◌, ◌≡◌}
use Rattle.sn_scenario.specs.ConfigLines.{no_config, of_worker}
use Rattle.sn_scenario.specs.PlanLaws.{AreChanged}
use Rattle.sn_scenario.specs.Plans.{plan_after}
use Rattle.sn_scenario.proofs.plan.plan_from.Given as goal

abbrev pub invariant-loop-next : goal.invariant-loop-next
invariant-loop-next l = record {
  planned : plan_after no_config (filter (of_worker l.worker) l.placed) ≡ l.actions.items ++ plan_after l.before (filter (of_worker l.worker) (drop l.next-index l.placed));
  changed : AreChanged l.before (filter (of_worker l.worker) (drop l.next-index l.placed)) → AreChanged no_config (filter (of_worker l.worker) l.placed);
}
