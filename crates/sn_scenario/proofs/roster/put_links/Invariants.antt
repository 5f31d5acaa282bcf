-- The links so far with those to come are those of all.
use Rattle.std.proofs.Common.{fold, ◌≡◌}
use Rattle.sn_names.specs.LinkOrder.{link_cmp}
use Rattle.std.specs.BTreeSet.{insert_key}
use Rattle.sn_scenario.proofs.roster.put_links.Given as goal

abbrev pub invariant-loop-link : goal.invariant-loop-link
invariant-loop-link l = fold (insert_key link_cmp) l.links.keys l.link-iterator ≡ fold (insert_key link_cmp) l.fn.links.keys l.more.keys
