use Rattle.std.proofs.Common.{◌≡◌, ◌+◌, ◌++◌, ◌<◌, ◌-◌, ℕ, length, nat_eq, slice_index}
use Rattle.std.specs.List.{All, filter}
use Rattle.std.specs.List.Sorted.{IsStrictlySortedBy}
use Rattle.std.specs.Ordering.{nat_cmp}
use Rattle.sn_order.specs.Order.{placing}
use Rattle.sn_order.specs.Ranks.{is_free, rank_order, rank_waits, waits_for}
use Rattle.sn_order.proofs.ranks.place_all.Given as goal

-- what was placed, and what will be, is the order; the counts are of those that are left, and those with none are free
abbrev pub invariant-loop : goal.invariant-loop
invariant-loop l = record {
  order : l.order.items ++ placing nat_eq (rank_waits l.fn.edges) (l.fn.count - l.counter) l.left.keys
      ≡ rank_order l.fn.count l.fn.edges;
  placed : All (λ app. app < l.fn.count) l.order.items;
  so_far : length l.order.items ≡ l.counter;
  len : length l.counts.items ≡ l.fn.count;
  counts : (app : ℕ) → slice_index l.counts.items app ≡ waits_for l.fn.edges l.left.keys app;
  free : l.free.keys ≡ filter (is_free l.counts.items) l.left.keys;
  many : length l.left.keys + l.counter ≡ l.fn.count;
  rising : IsStrictlySortedBy nat_cmp l.left.keys;
  within : All (λ app. app < l.fn.count) l.left.keys;
}
