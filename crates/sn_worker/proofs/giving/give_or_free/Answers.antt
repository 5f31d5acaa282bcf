-- answers of src/giving.rt, give_or_free
use Rattle.std.proofs.Common.{Err, ap, rules, ◌∙◌, ◌≡◌}
use Rattle.sn_app.specs.Desk.{freed, name_of}
use Rattle.sn_app.specs.World.{Used, packet_at}
use Rattle.sn_seat.specs.GiveSteps.{is_done, used_after}
use Rattle.sn_seat.specs.declared.gave.Gave.{Gave}
use Rattle.sn_worker.proofs.GivingBack.{gave_done, gave_halts, gave_not}
use Rattle.sn_worker.proofs.giving.give_or_free.Goals as goal

pub returns-in_err-gave-clause-reads : goal.returns-in_err-gave-clause-reads
returns-in_err-gave-clause-reads g c =
    let e : c.from_residual.result ≡ Err c.in_err-gave.field-0.0 = search rules in
    rw e (gave_halts _ _ _ c.in_err-gave.field-0.0 c.in_err-gave.ensures.reads)

pub returns-in-Done-clause-reads : goal.returns-in-Done-clause-reads
returns-in-Done-clause-reads g c = gave_done _ _ _ _ (ap is_done c.in-Done.is) c.in_ok-gave.ensures.reads

pub returns-in-Full-clause-reads : goal.returns-in-Full-clause-reads
returns-in-Full-clause-reads g c =
    let used = g.C.Ctx.used c.args.ctx.now in
    let same : g.C.Ctx.used c.give.new.self ≡ used =
    c.in_ok-gave.ensures.used ∙ ap (λ (gave : Gave). used_after c.args.place gave used) c.in-Full.is in
    gave_not _ _ _ _ _ (ap is_done c.in-Full.is)
    (c.free.ensures.tray
    ∙ ap (λ (u : Used). freed (name_of (packet_at u c.args.place)) (g.C.Ctx.tray c.give.new.self)) same)
    c.in_ok-gave.ensures.reads

pub returns-in-Worn-clause-reads : goal.returns-in-Worn-clause-reads
returns-in-Worn-clause-reads g c =
    let used = g.C.Ctx.used c.args.ctx.now in
    let same : g.C.Ctx.used c.give.new.self ≡ used =
    c.in_ok-gave.ensures.used ∙ ap (λ (gave : Gave). used_after c.args.place gave used) c.in-Worn.is in
    gave_not _ _ _ _ _ (ap is_done c.in-Worn.is)
    (c.free-in-Worn.ensures.tray
    ∙ ap (λ (u : Used). freed (name_of (packet_at u c.args.place)) (g.C.Ctx.tray c.give.new.self)) same)
    c.in_ok-gave.ensures.reads
