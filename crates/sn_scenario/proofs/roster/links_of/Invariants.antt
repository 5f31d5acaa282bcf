-- The links so far with those of the configurations to come are those of all.
use Rattle.std.proofs.Common.{drop, filter, fold, ◌≡◌}
use Rattle.sn_names.specs.LinkOrder.{link_cmp}
use Rattle.std.specs.BTreeSet.{insert_key}
use Rattle.sn_scenario.specs.ConfigLines.{of_worker}
use Rattle.sn_scenario.specs.Plans.{all_links, ordered}
use Rattle.sn_scenario.proofs.roster.links_of.Given as goal

abbrev pub invariant-loop-next : goal.invariant-loop-next
invariant-loop-next l = fold (insert_key link_cmp) l.links.keys (all_links (filter (of_worker l.worker) (drop l.next-index l.placed))) ≡ ordered link_cmp (all_links (filter (of_worker l.worker) l.placed))
