-- answers of src/taking.rt, act_each
use Rattle.std.proofs.Common.{Err, IsOk, Some, ap, get_or, refl, rules, subst, sym, ◌∙◌, ◌≡◌}
use Rattle.std.proofs.lemmas.Option.{slice_get-get_or}
use Rattle.sn_actions.specs.declared.action.Action.{Action}
use Rattle.sn_actions.specs.Plains.{apply}
use Rattle.sn_network.specs.Acting.{acts}
use Rattle.sn_breath.proofs.Folds.{onward_done, onward_fail, onward_next}
use Rattle.sn_network.specs.Networks.{plain_in, shown}
use Rattle.sn_worker.proofs.Applied.{next_applied, next_taken}
use Rattle.sn_worker.proofs.Staying.{all_stay}
use Rattle.sn_worker.proofs.Turning.{of_same}
use Rattle.sn_worker.proofs.Works.{run_stays}
use Rattle.sn_worker.proofs.taking.act_each.Goals as goal

pub apply-requires-clause-taken : goal.apply-requires-clause-taken
apply-requires-clause-taken g c =
    let x = c.index-actions-i.result in
    let is : x ≡ get_or c.args.actions.now c.loop-i.i x = c.index-actions-i.is in
    subst (λ (a : Action). IsOk (apply a (plain_in c.loop-i.network))) (sym is)
    (next_taken c.args.actions.now c.loop-i.i c.index-actions-i.result (plain_in c.args.network.now) _ c.loop-i-test.true
    c.requires.taken c.loop-i.invariant.plain)

pub apply-requires-clause-found : goal.apply-requires-clause-found
apply-requires-clause-found g c =
    let x = c.index-actions-i.result in
    let is : x ≡ get_or c.args.actions.now c.loop-i.i x = c.index-actions-i.is in
    c.loop-i.invariant.finds c.loop-i.i x
    (slice_get-get_or c.args.actions.now c.loop-i.i x c.loop-i-test.true ∙ ap (λ (a : Action). Some a) (sym is))

pub returns-in_err-apply-clause-runs : goal.returns-in_err-apply-clause-runs
returns-in_err-apply-clause-runs g c =
    let x = c.index-actions-i.result in
    let is : x ≡ get_or c.args.actions.now c.loop-i.i x = c.index-actions-i.is in
    let e : c.from_residual.result ≡ Err c.in_err-apply.field-0.0 = search rules in
    rw e (onward_fail c.args.actions.now _ _ _ _ c.args.actions.now refl c.loop-i.i c.index-actions-i.result _ _ _ _ _
    c.in_err-apply.field-0.0 _ c.loop-i-test.true c.loop-i.invariant.onward
    (of_same (λ (a : Action). acts a (shown c.loop-i.network (g.C.Ctx.used c.loop-i.ctx) (g.C.Ctx.tray c.loop-i.ctx))) is
    c.in_err-apply.ensures.runs))

pub loop-i-preserved : goal.loop-i-preserved
loop-i-preserved g c =
    let x = c.index-actions-i.result in
    let is : x ≡ get_or c.args.actions.now c.loop-i.i x = c.index-actions-i.is in
    record {
      stands = c.in_ok-apply.ensures.stands;
      lent = c.apply.ensures.lent ∙ c.loop-i.invariant.lent;
      finds = all_stay c.args.actions.now _ _ (run_stays _ _ _ _ _ _ c.in_ok-apply.ensures.runs) c.loop-i.invariant.finds;
      plain =
          next_applied c.args.actions.now c.loop-i.i c.index-actions-i.result (plain_in c.args.network.now) _ _ c.loop-i-test.true
          c.loop-i.invariant.plain
          (ap (λ (a : Action). apply a (plain_in c.loop-i.network)) (sym is) ∙ c.in_ok-apply.ensures.plain);
      onward =
          onward_next c.args.actions.now _ _ _ _ c.args.actions.now refl c.loop-i.i c.index-actions-i.result _ _ _ _ _ _
          c.loop-i-test.true c.loop-i.invariant.onward
          (of_same (λ (a : Action). acts a (shown c.loop-i.network (g.C.Ctx.used c.loop-i.ctx) (g.C.Ctx.tray c.loop-i.ctx))) is
          c.in_ok-apply.ensures.runs);
    }

pub returns-clause-runs : goal.returns-clause-runs
returns-clause-runs g c =
    onward_done c.args.actions.now _ _ _ _ c.loop-i.i _ _ _ (let h = c.loop-i-test.false in search rules)
    c.loop-i.invariant.onward
