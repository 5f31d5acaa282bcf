use Rattle.std.proofs.Common.{◌≡◌, ◌++◌, ◌<◌, ℕ, length, slice_index_or, [], drop, replicate}
use Rattle.sn_order.specs.Ranks.{targets_of}
use Rattle.sn_order.proofs.ranks.targets_of.Given as goal

abbrev pub invariant-loop : goal.invariant-loop
invariant-loop l = l.targets.items ≡ replicate l.counter []

abbrev pub invariant-loop-edge : goal.invariant-loop-edge
invariant-loop-edge l = record {
  len : length l.targets.items ≡ l.fn.count;
  targets : (app : ℕ) → app < l.fn.count
      → slice_index_or l.targets.items app [] ++ targets_of (drop l.edge-index l.edges) app ≡ targets_of l.fn.edges app;
}
