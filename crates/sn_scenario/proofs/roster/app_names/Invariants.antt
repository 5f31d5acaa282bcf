-- The names so far with those of the configurations to come are those of all.
use Rattle.std.proofs.Common.{drop, filter, fold, ◌≡◌}
use Rattle.sn_names.specs.LinkOrder.{name_cmp}
use Rattle.std.specs.BTreeSet.{insert_key}
use Rattle.sn_scenario.specs.ConfigLines.{of_worker}
use Rattle.sn_scenario.specs.Plans.{app_names, ordered}
use Rattle.sn_scenario.proofs.roster.app_names.Given as goal

abbrev pub invariant-loop-next : goal.invariant-loop-next
invariant-loop-next l = fold (insert_key name_cmp) l.names.keys (app_names (filter (of_worker l.worker) (drop l.next-index l.placed))) ≡ ordered name_cmp (app_names (filter (of_worker l.worker) l.placed))
