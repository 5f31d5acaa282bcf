use Rattle.std.proofs.Common.{◌≡◌, length, ◌++◌, drop}
use Rattle.std.specs.BTreeSet.{insert_key}
use Rattle.std.specs.List.{fold}
use Rattle.sn_names.specs.LinkOrder.{name_cmp}
use Rattle.std.specs.List.Sorted.{IsStrictlySortedBy}
use Rattle.sn_order.specs.Order.{in_order}
use Rattle.sn_order.proofs.names.sorted.Given as goal

-- what is left goes into the set, which is in order
abbrev pub invariant-loop-app : goal.invariant-loop-app
invariant-loop-app l = record {
  names : fold (insert_key name_cmp) l.set.keys (drop l.app-index l.apps) ≡ in_order l.fn.apps;
  rising : IsStrictlySortedBy name_cmp l.set.keys;
}

abbrev pub invariant-loop-name : goal.invariant-loop-name
invariant-loop-name l = record {
  names : l.names.items ++ l.set.keys ≡ in_order l.fn.apps;
  rising : IsStrictlySortedBy name_cmp (in_order l.fn.apps);
}

abbrev pub decreases-loop-name : goal.decreases-loop-name
decreases-loop-name l = length l.set.keys
