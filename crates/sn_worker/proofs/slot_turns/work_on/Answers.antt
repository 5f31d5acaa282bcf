-- answers of src/slot_turns.rt, work_on
use Rattle.std.proofs.Common.{Err, ap, rules, sym, ℕ, ◌≡◌}
use Rattle.sn_app.proofs.Calling.{runs_left}
use Rattle.sn_app.specs.World.{Used}
use Rattle.sn_worker.specs.Lives.{Life}
use Rattle.sn_worker.specs.SlotTurns.{acting, rests}
use Rattle.sn_worker.specs.Slots.{SlotLife}
use Rattle.sn_worker.specs.Workers.{life_of, plan_in}
use Rattle.sn_worker.proofs.Seats.{kept_life, kept_works, runs_stayed, same_used, tray_stays, works_sound}
use Rattle.sn_worker.proofs.SlotTurning.{heard_well, hears_halts, rests_by, runs_work, work_halts, work_unheard}
use Rattle.sn_worker.proofs.Turning.{of_same}
use Rattle.sn_worker.proofs.Works.{on_ok}
use Rattle.sn_worker.proofs.slot_turns.work_on.Goals as goal

pub act-requires : goal.act-requires
act-requires g c = record {
  works = kept_works c.args.worker.now _ _ _ _ (tray_stays c.hear.ensures.reads) c.hear.ensures.used c.requires.works;
}

pub returns-in_err-due-clause-runs : goal.returns-in_err-due-clause-runs
returns-in_err-due-clause-runs g c =
    let e : c.from_residual.result ≡ Err c.in_err-due.field-0.0 = search rules in
    let floor : ℕ = g.C.Seated.floor (g.C.Ctx.lender c.args.ctx.now) in
    rw e (work_unheard (plan_in c.args.worker.now) floor c.args.keep _ _ _ _ _ c.in_err-due.field-0.0 _
    (runs_left _ _ _ _ (hears_halts floor _ _ c.in_err-due.field-0.0 c.in_err-due.ensures.reads)
    (λ q. ap (λ (used : Used). used q) c.hear.ensures.used)))

pub returns-in_err-act-clause-runs : goal.returns-in_err-act-clause-runs
returns-in_err-act-clause-runs g c =
    let e : c.from_residual-in_err-act.result ≡ Err c.in_err-act.field-0.0 = search rules in
    let floor : ℕ = g.C.Seated.floor (g.C.Ctx.lender c.args.ctx.now) in
    let plan = plan_in c.args.worker.now in
    let due = c.in_ok-due.due in
    rw e (work_halts plan floor c.args.keep _ _ _ _ _ due c.in_err-act.field-0.0 _ _ _
    (runs_left _ _ _ _
    (heard_well floor _ _ due c.in_ok-due.ensures.met c.in_ok-due.ensures.rising c.in_ok-due.ensures.reads)
    (λ q. ap (λ (used : Used). used q) c.hear.ensures.used))
    (of_same (λ (life : Life). acting plan life due)
    (kept_life c.args.worker.now _ _ _ _ (tray_stays c.hear.ensures.reads) c.hear.ensures.used) c.in_err-act.ensures.runs))

pub returns-clause-runs : goal.returns-clause-runs
returns-clause-runs g c =
    let floor : ℕ = g.C.Seated.floor (g.C.Ctx.lender c.args.ctx.now) in
    let plan = plan_in c.args.worker.now in
    let due = c.in_ok-due.due in
    let keep = c.args.keep in
    let worker = c.act.new.worker in
    let life : Life = life_of worker (g.C.Ctx.used c.act.new.ctx) (g.C.Ctx.tray c.act.new.ctx) in
    let later : Life = life_of worker (g.C.Ctx.used c.give_after.new.ctx) (g.C.Ctx.tray c.give_after.new.ctx) in
    let breathed : ℕ = c.after_breath.result in
    let next : SlotLife = record { life = later; breathed = breathed } in
    runs_work plan floor keep _ _ _ _ _ due life _ _ _ _ _
    (runs_left _ _ _ _
    (heard_well floor _ _ due c.in_ok-due.ensures.met c.in_ok-due.ensures.rising c.in_ok-due.ensures.reads)
    (λ q. ap (λ (used : Used). used q) c.hear.ensures.used))
    (of_same (λ (l : Life). acting plan l due)
    (kept_life c.args.worker.now _ _ _ _ (tray_stays c.hear.ensures.reads) c.hear.ensures.used) c.in_ok-act.ensures.runs)
    (of_same (λ (n : ℕ). rests keep n life) c.after_breath.ensures
    (rests_by keep breathed life _ _ _ next c.give_after.result
    (on_ok c.give_after.result
    (λ same. ap (λ (l : Life). record { life = l; breathed = breathed })
    (sym (kept_life worker _ _ _ _ (tray_stays c.give_after.ensures.reads) (same_used same))))
    c.give_after.ensures.used)
    (runs_stayed _ _ _ _ (works_sound worker _ _ c.in_ok-act.ensures.works) c.give_after.result c.give_after.ensures.reads
    c.give_after.ensures.used c.give_after.ensures.stay)))

pub returns-clause-works : goal.returns-clause-works
returns-clause-works g c =
    on_ok c.give_after.result
    (λ same. kept_works c.act.new.worker _ _ _ _ (tray_stays c.give_after.ensures.reads) (same_used same)
    c.in_ok-act.ensures.works) c.give_after.ensures.used
