use Rattle.std.proofs.Common.{◌≡◌, ℕ, [], length}
use Rattle.sn_sharing.specs.Laying.{ends_at, rxs, txs}
use Rattle.sn_sharing.proofs.laying.no_ends.Given as goal

-- so many have no ends
abbrev pub invariant-loop-worker : goal.invariant-loop-worker
invariant-loop-worker l = record {
  as_many : length l.all.items ≡ l.worker;
  tx : (worker : ℕ) → ends_at (txs l.all.items) worker ≡ [];
  rx : (worker : ℕ) → ends_at (rxs l.all.items) worker ≡ [];
}
