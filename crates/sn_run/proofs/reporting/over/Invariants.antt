use Rattle.std.proofs.Common.{◌≡◌, ◌++◌, length}
use Rattle.sn_run.specs.Replay.{over}
use Rattle.sn_run.proofs.reporting.over.Given as goal

-- the rows so far and those of what is left are all rows
abbrev pub invariant-loop-files : goal.invariant-loop-files
invariant-loop-files l = l.all.items ++ over l.files.items l.others.items ≡ over l.fn.files.items l.fn.others.items

abbrev pub decreases-loop-files : goal.decreases-loop-files
decreases-loop-files l = length l.files.items
