use Rattle.std.proofs.Common.{◌≡◌, ◌++◌, take}
use Rattle.sn_run.specs.Steps.{prepared, unwritten_all}
use Rattle.sn_run.proofs.writing.push_unwritten.Given as goal

-- the answers for the files before this place
abbrev pub invariant-loop-output : goal.invariant-loop-output
invariant-loop-output l = prepared l.into.items ≡ prepared l.fn.into.items ++ unwritten_all (take l.output-index l.outputs)
