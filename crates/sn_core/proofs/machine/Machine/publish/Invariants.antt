use Rattle.sn_core.specs.State.{core_of}
use Rattle.sn_core.proofs.LanePreservation.{PublishesRest}
use Rattle.sn_core.proofs.machine.Machine.publish.Given as goal

abbrev pub invariant-loop-packet : goal.invariant-loop-packet
invariant-loop-packet l = PublishesRest (core_of l.fn.self) (core_of l.self) l.i l._packet-end l._packet
