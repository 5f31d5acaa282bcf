use Rattle.std.proofs.Common.{◌≡◌, ◌++◌, drop}
use Rattle.sn_run.specs.Replay.{started}
use Rattle.sn_run.proofs.reporting.out_files.Given as goal

-- the files so far and those that are left are all that were started
abbrev pub invariant-loop-name : goal.invariant-loop-name
invariant-loop-name l =
    l.files.items ++ started (drop l.name-index l.names) l.outputs.items ≡ started l.names l.fn.outputs.items
