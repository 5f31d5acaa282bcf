use Rattle.sn_scenario.specs.Scenarios.{IsBounded}
use Rattle.sn_scenario.proofs.scenario.Scenario.due.Goals as goal

pub due_from-requires-clause-few : goal.due_from-requires-clause-few
unfolding IsBounded
due_from-requires-clause-few c = rw c.deref.ensures.value (c.self.invariant.0.placed.few c.args.worker)
