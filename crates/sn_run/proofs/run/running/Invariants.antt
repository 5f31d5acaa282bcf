use Rattle.std.proofs.Common.{◌≡◌, ◌≤◌, replicate, vec_capacity, vec_len}
use Rattle.sn_journal.specs.declared.slot_state.SlotState.TheVariants.{Running}
use Rattle.sn_run.proofs.run.running.Given as goal

abbrev pub invariant-loop-slot : goal.invariant-loop-slot
invariant-loop-slot l = record {
  items : l.states.items ≡ replicate l._slot Running;
  len : vec_len l.states ≡ l._slot;
  room : l.count ≤ vec_capacity l.states;
}
