-- Counts of faults, which never fall and stand still at the greatest u64.
use Rattle.std.specs.Prelude.{ℕ, ◌+◌, ◌-◌, ◌^◌, ◌≤◌, ◌≡◌, min, Result, Err, OnOk, OnErr}
use Rattle.sn_outside.specs.Views.{FilesView, SinkView}
use Rattle.sn_outside.specs.declared.fault.FileFault.{FileFault}
use Rattle.sn_outside.specs.declared.fault.FileFault.TheVariants.{Failed}
use Rattle.sn_outside.specs.declared.fault.SinkFault.{SinkFault}

-- a fault was counted: the count is higher than before, or stands at its last value
abbrev pub FaultCounted : ℕ → ℕ → Type 0
FaultCounted before now = min (before + 1) (2 ^ 64 - 1) ≤ now

-- over a call on files the count didn't fall, counted a fault where the call failed, and stood still with every other answer
pub record HasCause {T : Type 0} (old new : FilesView) (result : Result T FileFault) : Type 0 where
  pub later : old.faults ≤ new.faults
  pub failed : result ≡ Err Failed → FaultCounted old.faults new.faults
  pub still : (result ≡ Err Failed → ⊥) → new.faults ≡ old.faults

-- over a call on a sink the count didn't fall, counted a fault where the call failed, and stood still where bytes were taken
pub record SinkHasCause (old new : SinkView) (result : Result ℕ SinkFault) : Type 0 where
  pub later : old.faults ≤ new.faults
  pub failed : OnErr result (FaultCounted old.faults new.faults)
  pub still : OnOk result (new.faults ≡ old.faults)
