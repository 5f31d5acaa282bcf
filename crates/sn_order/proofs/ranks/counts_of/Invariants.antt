use Rattle.std.proofs.Common.{◌≡◌, ◌+◌, ◌≤◌, ℕ, length, slice_index, count_by, drop}
use Rattle.sn_order.specs.Ranks.{leads_to}
use Rattle.sn_order.proofs.ranks.counts_of.Given as goal

abbrev pub invariant-loop-place : goal.invariant-loop-place
invariant-loop-place l = record {
  len : length l.counts.items ≡ l.fn.count;
  few : (app : ℕ) → slice_index l.counts.items app ≤ l.place;
  counts : (app : ℕ)
      → slice_index l.counts.items app + count_by (leads_to app) (drop l.place l.edges) ≡ count_by (leads_to app) l.fn.edges;
}
