-- Every event keeps the facts, whether it was done or not.
use Rattle.sn_core.specs.State.{core_of}
use Rattle.sn_core.proofs.EventPreservation.{step_keeps}
use Rattle.sn_core.proofs.state.CoreState.step.Goals as goal

pub invariant_of-self : goal.invariant_of-self
invariant_of-self c =
    step_keeps (core_of c.self.inside.machine) (core_of c.step.new.self) c.args.event c.step.result c.self.invariant c.step.ensures

pub returns-clause-sound : goal.returns-clause-sound
returns-clause-sound c =
    (step_keeps (core_of c.self.inside.machine) (core_of c.step.new.self) c.args.event c.step.result c.self.invariant c.step.ensures).sound
