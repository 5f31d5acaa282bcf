use Rattle.std.proofs.Common.{◌≡◌, ◌++◌, drop, map}
use Rattle.sn_run.specs.Replay.{kept_at}
use Rattle.sn_run.proofs.reporting.push_kept.Given as goal

-- the packets so far and those that are left are all
abbrev pub invariant-loop-name : goal.invariant-loop-name
invariant-loop-name l =
    l.kept.items ++ map (kept_at l.worker) (drop l.name-index l.names) ≡ l.fn.kept.items ++ map (kept_at l.worker) l.names
