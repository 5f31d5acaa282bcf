use Rattle.std.proofs.Common.{◌≡◌}
use Rattle.std.specs.List.{range_with_len}
use Rattle.std.specs.List.Sorted.{IsStrictlySortedBy}
use Rattle.std.specs.Ordering.{nat_cmp}
use Rattle.sn_order.proofs.ranks.all_of.Given as goal

abbrev pub invariant-loop-app : goal.invariant-loop-app
invariant-loop-app l = record {
  all : l.left.keys ≡ range_with_len 0 l.app;
  rising : IsStrictlySortedBy nat_cmp l.left.keys;
}
