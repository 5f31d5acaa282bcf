-- answers of src/turns.rt, end_spent
use Rattle.std.proofs.Common.{Err, ap, refl, rules, sym, true, ◌≡◌}
use Rattle.sn_journal.specs.declared.entry.Entry.TheVariants.{Spent}
use Rattle.sn_network.specs.Nets.{Net}
use Rattle.sn_worker.specs.Own.{a_spent}
use Rattle.sn_worker.specs.Workers.{life_of}
use Rattle.sn_worker.proofs.Noting.{runs_noted, runs_refused}
use Rattle.sn_worker.proofs.Turning.{runs_last}
use Rattle.sn_worker.proofs.Works.{noted_shown, noted_works}
use Rattle.sn_worker.proofs.turns.end_spent.Goals as goal

pub returns-in_err-note-clause-runs : goal.returns-in_err-note-clause-runs
returns-in_err-note-clause-runs g c =
    let e : c.from_residual.result ≡ Err c.in_err-note.field-0.0 = search rules in
    rw e (runs_refused _ _ _ _ _ _ _ _ c.in_err-note.field-0.0 c.in_err-note.ensures.memory c.in_err-note.ensures.refused
    c.in_err-note.ensures.used)

pub returns-clause-runs : goal.returns-clause-runs
returns-clause-runs g c =
    let life = life_of c.args.worker.now (g.C.Ctx.used c.args.ctx.now) (g.C.Ctx.tray c.args.ctx.now) in
    runs_last life _ _ _ _
    (ap (λ (net : Net). record life { net = net; spent = true })
    (sym (noted_shown c.args.worker.now _ _ _ _ Spent c.in_ok-note.ensures.noted c.in_ok-note.ensures.used)))
    (runs_noted a_spent Spent _ _ _ _ _ _ refl c.in_ok-note.ensures.may c.in_ok-note.ensures.noted c.in_ok-note.ensures.used)

pub returns-clause-works : goal.returns-clause-works
returns-clause-works g c =
    let h = noted_works c.args.worker.now _ _ _ _ Spent c.in_ok-note.ensures.noted c.in_ok-note.ensures.used c.requires.works in
    record { breathes = h.breathes; within = h.within; takes = h.takes; finds = h.finds }
