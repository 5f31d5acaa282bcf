-- The names so far with those to come are those of all.
use Rattle.std.proofs.Common.{fold, ◌≡◌}
use Rattle.sn_names.specs.LinkOrder.{name_cmp}
use Rattle.std.specs.BTreeSet.{insert_key}
use Rattle.std.specs.Map.{keys_of}
use Rattle.sn_scenario.proofs.roster.put_names.Given as goal

abbrev pub invariant-loop-name : goal.invariant-loop-name
invariant-loop-name l = fold (insert_key name_cmp) l.names.keys l.name-iterator ≡ fold (insert_key name_cmp) l.fn.names.keys (keys_of l.apps.entries)
