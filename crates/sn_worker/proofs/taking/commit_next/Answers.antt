-- answers of src/taking.rt, commit_next
use Rattle.std.proofs.Common.{Err, List, ap, slice_range, arith, get_or, rules, subst, sym, ◌+◌, ◌∙◌, ◌≡◌}
use Rattle.std.proofs.lemmas.List.{get_or_read}
use Rattle.sn_actions.specs.PlainForms.{empty_form}
use Rattle.sn_actions.specs.Plains.{apply, apply_all}
use Rattle.sn_actions.specs.declared.action.Action.{Action}
use Rattle.sn_actions.specs.declared.action.Action.TheVariants.{Commit}
use Rattle.sn_breath.specs.Breaths.{folding}
use Rattle.sn_network.specs.Acting.{acts}
use Rattle.sn_worker.specs.Plans.{CanTake, FindsAll}
use Rattle.sn_app.proofs.Readings.{stays_then}
use Rattle.sn_network.specs.Networks.{plain_in, shown}
use Rattle.sn_worker.specs.Lives.{applied_to}
use Rattle.sn_worker.specs.Workers.{life_of, plan_in}
use Rattle.sn_worker.proofs.Applied.{rest_taken}
use Rattle.sn_worker.proofs.Ranges.{range_none}
use Rattle.sn_worker.proofs.Staying.{all_stay, finds_part}
use Rattle.sn_worker.proofs.Turning.{commit_fails, of_same, runs_commits, waiting_fails}
use Rattle.sn_worker.proofs.Works.{committed_within, is_the_commit, run_stays}
use Rattle.sn_worker.proofs.taking.commit_next.Goals as goal

pub act_each-requires-clause-taken : goal.act_each-requires-clause-taken
act_each-requires-clause-taken g c =
    let h = c.requires.works.within in
    let order = h.order in
    let within = h.within in
    let same : c.deref.result.now ≡ plan_in c.args.worker.now = search rules in
    subst (λ (xs : List Action). CanTake (slice_range xs c.args.worker.now.applied c.args.worker.now.taken)
    (plain_in c.args.worker.now.network)) (sym same)
    (rest_taken (plan_in c.args.worker.now) c.args.worker.now.applied c.args.worker.now.taken empty_form _
    (omega (arith, order, within)) c.requires.works.takes h.after)

pub act_each-requires-clause-found : goal.act_each-requires-clause-found
act_each-requires-clause-found g c =
    let same : c.deref.result.now ≡ plan_in c.args.worker.now = search rules in
    subst (λ (xs : List Action). FindsAll (slice_range xs c.args.worker.now.applied c.args.worker.now.taken)
    (g.C.Ctx.tray c.args.ctx.now)) (sym same)
    (finds_part (plan_in c.args.worker.now) c.args.worker.now.applied c.args.worker.now.taken _ c.requires.works.finds)

pub returns-in_err-act_each-clause-runs : goal.returns-in_err-act_each-clause-runs
returns-in_err-act_each-clause-runs g c =
    let same : c.deref.result.now ≡ plan_in c.args.worker.now = search rules in
    let e : c.from_residual.result ≡ Err c.in_err-act_each.field-0.0 = search rules in
    rw e (waiting_fails (get_or (plan_in c.args.worker.now) c.args.worker.now.taken Commit) _ _ _ _ _
    c.in_err-act_each.field-0.0 _
    (of_same (λ (xs : List Action). folding (slice_range xs c.args.worker.now.applied c.args.worker.now.taken) acts
    (shown c.args.worker.now.network (g.C.Ctx.used c.args.ctx.now) (g.C.Ctx.tray c.args.ctx.now))) same
    c.in_err-act_each.ensures.runs))

pub returns-in_err-apply-clause-runs : goal.returns-in_err-apply-clause-runs
returns-in_err-apply-clause-runs g c =
    let same : c.deref.result.now ≡ plan_in c.args.worker.now = search rules in
    let item : c.index.result.now ≡ get_or (plan_in c.args.worker.now) c.args.worker.now.taken Commit =
    get_or_read (plan_in c.args.worker.now) c.args.worker.now.taken c.index.result.now c.requires.more c.index.ensures Commit in
    let e : c.from_residual-in_err-apply.result ≡ Err c.in_err-apply.field-0.0 = search rules in
    rw e (commit_fails (get_or (plan_in c.args.worker.now) c.args.worker.now.taken Commit) _ _ _ _ _ _ _ _ _
    c.in_err-apply.field-0.0
    (of_same (λ (xs : List Action). folding (slice_range xs c.args.worker.now.applied c.args.worker.now.taken) acts
    (shown c.args.worker.now.network (g.C.Ctx.used c.args.ctx.now) (g.C.Ctx.tray c.args.ctx.now))) same
    c.in_ok-act_each.ensures.runs)
    (of_same (λ (a : Action). acts a (shown c.act_each.new.network (g.C.Ctx.used c.act_each.new.ctx)
    (g.C.Ctx.tray c.act_each.new.ctx))) item
    c.in_err-apply.ensures.runs))

pub returns-clause-runs : goal.returns-clause-runs
returns-clause-runs g c =
    let same : c.deref.result.now ≡ plan_in c.args.worker.now = search rules in
    let item : c.index.result.now ≡ get_or (plan_in c.args.worker.now) c.args.worker.now.taken Commit =
    get_or_read (plan_in c.args.worker.now) c.args.worker.now.taken c.index.result.now c.requires.more c.index.ensures Commit in
    let life = life_of c.args.worker.now (g.C.Ctx.used c.args.ctx.now) (g.C.Ctx.tray c.args.ctx.now) in
    runs_commits (get_or (plan_in c.args.worker.now) c.args.worker.now.taken Commit) life _ _ _ _ _ _ _ _ _
    (ap (λ (waiting : List Action). record (applied_to life (shown c.apply.new.self (g.C.Ctx.used c.apply.new.ctx)
    (g.C.Ctx.tray c.apply.new.ctx))) { waiting = waiting })
    (sym (range_none (plan_in c.args.worker.now) (c.args.worker.now.taken + 1))))
    (of_same (λ (xs : List Action). folding (slice_range xs c.args.worker.now.applied c.args.worker.now.taken) acts
    (shown c.args.worker.now.network (g.C.Ctx.used c.args.ctx.now) (g.C.Ctx.tray c.args.ctx.now))) same
    c.in_ok-act_each.ensures.runs)
    (of_same (λ (a : Action). acts a (shown c.act_each.new.network (g.C.Ctx.used c.act_each.new.ctx)
    (g.C.Ctx.tray c.act_each.new.ctx))) item
    c.in_ok-apply.ensures.runs)

pub returns-clause-works : goal.returns-clause-works
returns-clause-works g c =
    let same : c.deref.result.now ≡ plan_in c.args.worker.now = search rules in
    let item : c.index.result.now ≡ get_or (plan_in c.args.worker.now) c.args.worker.now.taken Commit =
    get_or_read (plan_in c.args.worker.now) c.args.worker.now.taken c.index.result.now c.requires.more c.index.ensures Commit in
    let stays = stays_then (run_stays _ _ _ _ _ _ c.in_ok-act_each.ensures.runs)
    (run_stays _ _ _ _ _ _ c.in_ok-apply.ensures.runs) in
    record {
      breathes = c.in_ok-apply.ensures.ready (item ∙ is_the_commit _ c.requires.commit);
      within =
          committed_within (plan_in c.args.worker.now) c.args.worker.now.applied c.args.worker.now.taken Commit _
          c.requires.works.within c.requires.more _ _ c.requires.commit
          (ap (λ (xs : List Action). apply_all (slice_range xs c.args.worker.now.applied c.args.worker.now.taken)
          (plain_in c.args.worker.now.network)) (sym same) ∙ c.in_ok-act_each.ensures.plain)
          (ap (λ (a : Action). apply a (plain_in c.act_each.new.network)) (sym item) ∙ c.in_ok-apply.ensures.plain);
      takes = c.requires.works.takes;
      finds = all_stay (plan_in c.args.worker.now) _ _ stays c.requires.works.finds;
    }
