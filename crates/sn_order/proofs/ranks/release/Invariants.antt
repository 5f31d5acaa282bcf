use Rattle.std.proofs.Common.{◌≡◌, ◌+◌, ◌≤◌, ℕ, length, nat_eq, slice_index, count_by, drop}
use Rattle.std.specs.List.{filter}
use Rattle.sn_order.specs.Ranks.{is_free}
use Rattle.sn_order.proofs.ranks.release.Given as goal

abbrev pub invariant-loop-app : goal.invariant-loop-app
invariant-loop-app l = record {
  len : length l.counts.items ≡ length l.fn.counts.items;
  counts : (app : ℕ) → slice_index l.counts.items app + count_by (nat_eq app) l.fn.targets
      ≡ slice_index l.fn.counts.items app + count_by (nat_eq app) (drop l.app-index l.targets);
  enough : (app : ℕ) → count_by (nat_eq app) (drop l.app-index l.targets) ≤ slice_index l.counts.items app;
  free : l.free.keys ≡ filter (is_free l.counts.items) l.left.keys;
}
