use Rattle.std.proofs.Common.{take}
use Rattle.sn_sharing.specs.Laying.{AreLaid}
use Rattle.sn_sharing.proofs.laying.lay_lanes.Given as goal

-- the interlinks so far are laid
abbrev pub invariant-loop-line : goal.invariant-loop-line
invariant-loop-line l = AreLaid l.workers (take l.line-index l.lines) l.interlinks.items l.all.items
