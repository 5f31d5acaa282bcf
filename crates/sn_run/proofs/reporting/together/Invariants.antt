use Rattle.std.proofs.Common.{◌≡◌, length, map}
use Rattle.std.specs.Prelude.{fold}
use Rattle.sn_run.specs.Replay.{over, together}
use Rattle.sn_run.proofs.reporting.together.Given as goal

-- the rows so far, and with those of what is left
abbrev pub invariant-loop-alloc : goal.invariant-loop-alloc
invariant-loop-alloc l =
    fold over l.all.items (map (λ v. v.items) l.files.items) ≡ together l.rows (map (λ v. v.items) l.fn.files.items)

abbrev pub decreases-loop-alloc : goal.decreases-loop-alloc
decreases-loop-alloc l = length l.files.items
