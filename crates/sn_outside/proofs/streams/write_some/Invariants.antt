use Rattle.std.proofs.Common.{◌≡◌}
use Rattle.std.specs.Io.KnownBytes.{Keeps}
use Rattle.sn_outside.proofs.streams.write_some.Given as goal

-- nothing was taken and no fault counted so far
abbrev pub invariant-loop : goal.invariant-loop
invariant-loop g l = Keeps (g.O.Write.contents l.initial.writer) (g.O.Write.contents l.writer) × (l.faults ≡ l.initial.faults)
