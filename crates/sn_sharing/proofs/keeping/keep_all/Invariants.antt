use Rattle.sn_sharing.specs.Kept.{AreKeptBy}
use Rattle.sn_sharing.specs.LeftEnds.{lists}
use Rattle.sn_sharing.proofs.keeping.keep_all.Given as goal

-- the packets of the holds so far are listed
abbrev pub invariant-loop-hold : goal.invariant-loop-hold
invariant-loop-hold l = AreKeptBy l.yielded (lists l.kept.items)
