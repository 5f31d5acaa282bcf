-- answers of src/turns.rt, breathe_once
use Rattle.std.proofs.Common.{Err, refl, rules, ◌∙◌, ◌≡◌}
use Rattle.sn_breath.specs.Breaths.{breath}
use Rattle.sn_journal.specs.declared.entry.Entry.TheVariants.{Breath}
use Rattle.sn_network.specs.Networks.{shown}
use Rattle.sn_worker.specs.Lives.{at_prefix}
use Rattle.sn_worker.specs.Own.{a_breath}
use Rattle.sn_worker.specs.Workers.{life_of, plan_in}
use Rattle.sn_worker.proofs.Noting.{runs_noted, runs_refused}
use Rattle.sn_worker.proofs.Turning.{breathes_by, of_same}
use Rattle.sn_worker.proofs.Works.{breathed_works, noted_shown, noted_works, on_ok, prefix_shown, run_stays}
use Rattle.sn_worker.proofs.turns.breathe_once.Goals as goal

pub returns-in_err-note-clause-runs : goal.returns-in_err-note-clause-runs
returns-in_err-note-clause-runs g c =
    let e : c.from_residual.result ≡ Err c.in_err-note.field-0.0 = search rules in
    rw e (runs_refused _ _ _ _ _ _ _ _ c.in_err-note.field-0.0 c.in_err-note.ensures.memory c.in_err-note.ensures.refused
    c.in_err-note.ensures.used)

pub breathe-requires : goal.breathe-requires
breathe-requires g c = record {
  ready =
      (noted_works c.args.worker.now _ _ _ _ Breath c.in_ok-note.ensures.noted c.in_ok-note.ensures.used
      c.requires.works).breathes;
}

pub returns-clause-runs : goal.returns-clause-runs
returns-clause-runs g c =
    let network = c.args.worker.now.network in
    let before = shown network (g.C.Ctx.used c.note.new.self) (g.C.Ctx.tray c.note.new.self) in
    let prefix = at_prefix (plan_in c.args.worker.now)
    (life_of c.args.worker.now (g.C.Ctx.used c.args.ctx.now) (g.C.Ctx.tray c.args.ctx.now)) in
    let same : before ≡ prefix =
    noted_shown c.args.worker.now _ _ _ _ Breath c.in_ok-note.ensures.noted c.in_ok-note.ensures.used
    ∙ prefix_shown c.args.worker.now _ _ c.requires.works in
    breathes_by (plan_in c.args.worker.now) _ _ _ _ _ _ _ _ c.breathe.result refl
    (runs_noted a_breath Breath _ _ _ _ _ _ refl c.in_ok-note.ensures.may c.in_ok-note.ensures.noted c.in_ok-note.ensures.used)
    (of_same breath same c.breathe.ensures.runs)

pub returns-clause-works : goal.returns-clause-works
returns-clause-works g c =
    let noted = noted_works c.args.worker.now _ _ _ _ Breath c.in_ok-note.ensures.noted c.in_ok-note.ensures.used
    c.requires.works in
    on_ok c.breathe.result
    (λ breathes. breathed_works c.args.worker.now c.breathe.new.network _ _ _ _
    (run_stays _ _ _ _ _ _ c.breathe.ensures.runs) c.breathe.ensures.plain noted breathes)
    c.breathe.ensures.ready
