use Rattle.std.proofs.Common.{take}
use Rattle.sn_run.specs.Seen.{Written}
use Rattle.sn_run.proofs.writing.write_files.Given as goal

-- the files before this place were written
abbrev pub invariant-loop-at : goal.invariant-loop-at
invariant-loop-at g l = Written g.F.Files.tells (g.F.Files.state l.fn.files) (g.F.Files.state l.files) (take l.at l.outputs)
