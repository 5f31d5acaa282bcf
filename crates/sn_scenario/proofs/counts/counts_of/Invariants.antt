-- The numbers so far are those of the configurations so far.
use Rattle.std.proofs.Common.{get_or, ℕ, vec_len, ◌<◌, ◌≡◌}
use Rattle.sn_scenario.specs.PlanLaws.{count_at}
use Rattle.sn_scenario.specs.declared.placed.Placed.{Placed}
use Rattle.sn_scenario.proofs.counts.counts_of.Given as goal

abbrev pub invariant-loop-at : goal.invariant-loop-at
invariant-loop-at l = record {
  same : vec_len l.counts ≡ l.at;
  each : (i : ℕ) (next : Placed) → i < l.at → next ≡ get_or l.placed i next → get_or l.counts.items i 0 ≡ count_at l.placed i next;
}
