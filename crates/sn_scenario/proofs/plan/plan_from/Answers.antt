use Rattle.std.proofs.Common.{arith, refl}
use Rattle.std.proofs.lemmas.Bool.{eq-eqb, ne_eqb}
use Rattle.sn_scenario.specs.ConfigLines.{of_worker}
use Rattle.sn_scenario.proofs.PlanLaws.{changed_end, changed_skip, changed_turn}
use Rattle.sn_scenario.proofs.PlanSteps.{plan_end, plan_skip, plan_turn}
use Rattle.sn_scenario.proofs.plan.plan_from.Goals as goal
use Rattle.sn_scenario.proofs.plan.plan_from.Goals.{then-next-worker+in_ok-push_change, else-next-worker}

pub loop-next-preserved : goal.loop-next-preserved
loop-next-preserved c = elim c.if-next-worker.branch [
  | then-next-worker+in_ok-push_change w ↦ record {
    planned = plan_turn (of_worker c.args.worker) c.args.placed.now c.loop-next.next-index c.next-item.result c.loop-next.before.now c.if-next-worker.before.now _ c.loop-next.actions.items c.if-next-worker.actions.items (omega arith) c.next-item.is (eq-eqb _ _ w.if-next-worker.true) c.loop-next.invariant.planned (rw w.actions-is w.in_ok-push_change.ensures.items) (rw w.before-is refl);
    changed = λ rest. c.loop-next.invariant.changed (changed_turn (of_worker c.args.worker) c.args.placed.now c.loop-next.next-index c.next-item.result c.loop-next.before.now c.if-next-worker.before.now (omega arith) c.next-item.is (eq-eqb _ _ w.if-next-worker.true) (rw w.before-is refl) w.in_ok-push_change.ensures.laws rest);
  }
  | else-next-worker w ↦ record {
    planned = plan_skip (of_worker c.args.worker) c.args.placed.now c.loop-next.next-index c.next-item.result c.loop-next.before.now c.if-next-worker.before.now _ c.loop-next.actions.items c.if-next-worker.actions.items (omega arith) c.next-item.is (ne_eqb _ _ w.if-next-worker.false) c.loop-next.invariant.planned (rw w.actions-is refl) (rw w.before-is refl);
    changed = λ rest. c.loop-next.invariant.changed (changed_skip (of_worker c.args.worker) c.args.placed.now c.loop-next.next-index c.next-item.result c.loop-next.before.now c.if-next-worker.before.now (omega arith) c.next-item.is (ne_eqb _ _ w.if-next-worker.false) (rw w.before-is refl) rest);
  }
]

pub returns-clause-plan : goal.returns-clause-plan
returns-clause-plan c =
    plan_end (of_worker c.args.worker) c.args.placed.now c.loop-next.next-index c.loop-next.before.now _ c.loop-next.actions.items (omega arith) c.loop-next.invariant.planned

pub returns-clause-laws : goal.returns-clause-laws
returns-clause-laws c =
    c.loop-next.invariant.changed (changed_end (of_worker c.args.worker) c.args.placed.now c.loop-next.next-index c.loop-next.before.now (omega arith))
