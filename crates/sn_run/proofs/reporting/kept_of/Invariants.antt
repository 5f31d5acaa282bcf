use Rattle.std.proofs.Common.{◌≡◌, ◌++◌, drop, map}
use Rattle.sn_run.specs.Replay.{kept_from}
use Rattle.sn_run.proofs.reporting.kept_of.Given as goal

-- the packets so far and those of the workers that are left are all
abbrev pub invariant-loop-worker : goal.invariant-loop-worker
invariant-loop-worker l =
    l.kept.items ++ kept_from l.worker (map (λ v. v.items) (drop l.worker l.names)) ≡ kept_from 0 (map (λ v. v.items) l.names)
