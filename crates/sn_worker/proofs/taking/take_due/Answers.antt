-- answers of src/taking.rt, take_due
use Rattle.std.proofs.Common.{Err, arith, get_or, length, refl, rules, subst, ◌<◌, ◌∙◌, ◌≡◌, ◌≤◌}
use Rattle.sn_actions.specs.declared.action.Action.{Action}
use Rattle.sn_actions.specs.declared.action.Action.TheVariants.{Commit}
use Rattle.sn_breath.proofs.Folds.{onward_done, onward_fail, onward_next}
use Rattle.sn_worker.specs.Lives.{next_actions, takes}
use Rattle.sn_worker.specs.Workers.{life_of, plan_in}
use Rattle.sn_worker.proofs.Ranges.{next_one}
use Rattle.sn_worker.proofs.Turning.{of_same}
use Rattle.sn_worker.proofs.taking.take_due.Goals as goal

pub returns-in_err-take_one-clause-runs : goal.returns-in_err-take_one-clause-runs
returns-in_err-take_one-clause-runs g c =
    let plan = plan_in c.args.worker.now in
    let within : c.loop-taken.taken < length (next_actions plan c.args.due c.args.worker.now.taken) =
    subst (λ n. c.loop-taken.taken < n) c.count_due-taken-end.ensures c.loop-taken-test.true in
    let item : get_or (plan_in c.loop-taken.worker) c.loop-taken.worker.taken Commit
    ≡ get_or (next_actions plan c.args.due c.args.worker.now.taken) c.loop-taken.taken Commit =
    next_one plan (plan_in c.loop-taken.worker) c.args.due c.args.worker.now.taken c.loop-taken.worker.taken c.loop-taken.taken
    Commit c.loop-taken.invariant.plan c.loop-taken.invariant.taken within in
    let e : c.from_residual.result ≡ Err c.in_err-take_one.field-0.0 = search rules in
    rw e (onward_fail (next_actions plan c.args.due c.args.worker.now.taken) _ _ _ _
    (next_actions plan c.args.due c.args.worker.now.taken) refl c.loop-taken.taken Commit _ _ _ _ _
    c.in_err-take_one.field-0.0 _ within c.loop-taken.invariant.onward
    (of_same (λ (a : Action). takes a (life_of c.loop-taken.worker (g.C.Ctx.used c.loop-taken.ctx)
    (g.C.Ctx.tray c.loop-taken.ctx))) item c.in_err-take_one.ensures.runs))

pub loop-taken-preserved : goal.loop-taken-preserved
loop-taken-preserved g c =
    let plan = plan_in c.args.worker.now in
    let within : c.loop-taken.taken < length (next_actions plan c.args.due c.args.worker.now.taken) =
    subst (λ n. c.loop-taken.taken < n) c.count_due-taken-end.ensures c.loop-taken-test.true in
    let item : get_or (plan_in c.loop-taken.worker) c.loop-taken.worker.taken Commit
    ≡ get_or (next_actions plan c.args.due c.args.worker.now.taken) c.loop-taken.taken Commit =
    next_one plan (plan_in c.loop-taken.worker) c.args.due c.args.worker.now.taken c.loop-taken.worker.taken c.loop-taken.taken
    Commit c.loop-taken.invariant.plan c.loop-taken.invariant.taken within in
    let was = c.loop-taken.invariant.taken in
    let one = c.in_ok-take_one.ensures.taken in
    record {
      works = c.in_ok-take_one.ensures.works;
      plan = c.take_one.ensures.plan ∙ c.loop-taken.invariant.plan;
      spent = c.take_one.ensures.spent ∙ c.loop-taken.invariant.spent;
      lent = c.take_one.ensures.lent ∙ c.loop-taken.invariant.lent;
      taken = omega (arith, was, one);
      onward =
          onward_next (next_actions plan c.args.due c.args.worker.now.taken) _ _ _ _
          (next_actions plan c.args.due c.args.worker.now.taken) refl c.loop-taken.taken Commit _ _ _ _ _ _ within
          c.loop-taken.invariant.onward
          (of_same (λ (a : Action). takes a (life_of c.loop-taken.worker (g.C.Ctx.used c.loop-taken.ctx)
          (g.C.Ctx.tray c.loop-taken.ctx))) item c.in_ok-take_one.ensures.runs);
    }

pub returns-clause-runs : goal.returns-clause-runs
returns-clause-runs g c =
    onward_done (next_actions (plan_in c.args.worker.now) c.args.due c.args.worker.now.taken) _ _ _ _ c.loop-taken.taken _ _ _
    (subst (λ n. n ≤ c.loop-taken.taken) c.count_due-taken-end.ensures c.loop-taken-test.false)
    c.loop-taken.invariant.onward
