-- answers of src/taking.rt, take_one
use Rattle.std.proofs.Common.{ap, false, get_or, rules, sym, ◌∙◌, ◌≡◌}
use Rattle.std.proofs.lemmas.List.{get_or_read}
use Rattle.sn_actions.specs.declared.action.Action.TheVariants.{Commit}
use Rattle.sn_scenario.specs.PlanLaws.{is_commit}
use Rattle.sn_worker.specs.Lives.{waits}
use Rattle.sn_worker.specs.Workers.{life_of, plan_in}
use Rattle.sn_worker.proofs.Ranges.{range_more}
use Rattle.sn_worker.proofs.Turning.{takes_commit, takes_other}
use Rattle.sn_worker.proofs.Works.{waited_within}
use Rattle.sn_worker.proofs.taking.take_one.Goals as goal

pub returns-then-is_commit-clause-runs : goal.returns-then-is_commit-clause-runs
returns-then-is_commit-clause-runs g c =
    takes_commit (get_or (plan_in c.args.worker.now) c.args.worker.now.taken Commit) _ _ _ _ _ _ (search rules)
    c.commit_next.ensures.runs

pub returns-clause-runs : goal.returns-clause-runs
returns-clause-runs g c =
    let item : c.index.result.now ≡ get_or (plan_in c.args.worker.now) c.args.worker.now.taken Commit =
    get_or_read (plan_in c.args.worker.now) c.args.worker.now.taken c.index.result.now c.requires.more c.index.ensures Commit in
    let other : is_commit (get_or (plan_in c.args.worker.now) c.args.worker.now.taken Commit) ≡ false =
    ap is_commit (sym item) ∙ (sym c.is_commit.ensures ∙ c.if-is_commit.false) in
    let life = life_of c.args.worker.now (g.C.Ctx.used c.args.ctx.now) (g.C.Ctx.tray c.args.ctx.now) in
    takes_other (get_or (plan_in c.args.worker.now) c.args.worker.now.taken Commit) life _ _ _ other
    (ap (λ waiting. waits waiting life)
    (sym (range_more (plan_in c.args.worker.now) c.args.worker.now.applied c.args.worker.now.taken Commit
    c.requires.works.within.order c.requires.more)))

pub returns-clause-works : goal.returns-clause-works
returns-clause-works g c =
    let h = c.requires.works in
    let item : c.index.result.now ≡ get_or (plan_in c.args.worker.now) c.args.worker.now.taken Commit =
    get_or_read (plan_in c.args.worker.now) c.args.worker.now.taken c.index.result.now c.requires.more c.index.ensures Commit in
    let other : is_commit (get_or (plan_in c.args.worker.now) c.args.worker.now.taken Commit) ≡ false =
    ap is_commit (sym item) ∙ (sym c.is_commit.ensures ∙ c.if-is_commit.false) in
    record {
      breathes = h.breathes;
      within =
          waited_within (plan_in c.args.worker.now) c.args.worker.now.applied c.args.worker.now.taken Commit _ h.within
          c.requires.more other;
      takes = h.takes;
      finds = h.finds;
    }
