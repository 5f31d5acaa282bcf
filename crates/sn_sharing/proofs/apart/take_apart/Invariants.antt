use Rattle.sn_sharing.specs.Columns.{AreParts}
use Rattle.sn_sharing.proofs.apart.take_apart.Given as goal

-- the parts are those of the seats so far
abbrev pub invariant-loop-seat : goal.invariant-loop-seat
invariant-loop-seat l = AreParts l.yielded l.apart
