-- answers of src/slot_turns.rt, act
use Rattle.std.proofs.Common.{Err, List, rules, ◌≡◌}
use Rattle.sn_actions.specs.declared.action.Action.{Action}
use Rattle.sn_worker.specs.Turns.{breathes}
use Rattle.sn_worker.specs.Workers.{life_of, plan_in}
use Rattle.sn_worker.proofs.SlotTurning.{acting_fails, runs_acting}
use Rattle.sn_worker.proofs.Turning.{of_same}
use Rattle.sn_worker.proofs.slot_turns.act.Goals as goal

pub returns-in_err-take_due-clause-runs : goal.returns-in_err-take_due-clause-runs
returns-in_err-take_due-clause-runs g c =
    let e : c.from_residual.result ≡ Err c.in_err-take_due.field-0.0 = search rules in
    rw e (acting_fails (plan_in c.args.worker.now) _ c.args.due _ _ _ _ c.in_err-take_due.field-0.0 _
    c.in_err-take_due.ensures.runs)

pub returns-clause-runs : goal.returns-clause-runs
returns-clause-runs g c =
    let taken = life_of c.take_due.new.worker (g.C.Ctx.used c.take_due.new.ctx) (g.C.Ctx.tray c.take_due.new.ctx) in
    runs_acting (plan_in c.args.worker.now) _ c.args.due _ _ _ _ taken _ _ _ c.in_ok-take_due.ensures.runs
    (of_same (λ (plan : List Action). breathes plan taken) c.take_due.ensures.plan c.breathe_once.ensures.runs)
