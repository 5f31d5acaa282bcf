-- answers of src/slot_plan.rt, Slot::of_scenario
use Rattle.std.proofs.Common.{List, subst, sym}
use Rattle.sn_actions.specs.declared.action.Action.{Action}
use Rattle.sn_scenario.specs.Plans.{plan_of, roster_of}
use Rattle.sn_worker.specs.SlotViews.{slot_tray}
use Rattle.sn_worker.specs.Plans.{FindsAll}
use Rattle.sn_worker.proofs.Listed.{all_found}
use Rattle.sn_worker.proofs.slot.Slot.of_scenario.Goals as goal

pub returns-clause-can : goal.returns-clause-can
returns-clause-can c = λ captures serves.
    c.new.ensures.can captures
    (subst (λ (plan : List Action). FindsAll plan (slot_tray captures c.new.result)) (sym c.in_ok-plan.ensures.plan)
    (all_found (roster_of c.args.number c.args.scenario.now) c.args.scenario.now.lanes c.args.number _ serves
    (plan_of c.args.number c.args.scenario.now) c.in_ok-plan.ensures.listed c.in_ok-plan.ensures.own_ends))
