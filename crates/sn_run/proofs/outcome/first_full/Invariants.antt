use Rattle.std.proofs.Common.{◌≡◌, drop, map}
use Rattle.sn_run.specs.Reported.{first_full}
use Rattle.sn_run.proofs.outcome.first_full.Given as goal

-- the first of all is the first of those that are left
abbrev pub invariant-loop-worker : goal.invariant-loop-worker
invariant-loop-worker l =
    first_full l.worker (map (λ j. j.entries) (drop l.worker l.journals)) ≡ first_full 0 (map (λ j. j.entries) l.journals)
