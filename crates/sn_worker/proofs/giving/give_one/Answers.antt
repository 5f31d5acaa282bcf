-- answers of src/giving.rt, give_one
use Rattle.std.proofs.Common.{Err, None, Ok, Some}
use Rattle.std.proofs.Common.{rules, subst, ◌≡◌}
use Rattle.sn_app.specs.Answers.{OnTray}
use Rattle.sn_app.specs.Calls.{named}
use Rattle.sn_app.specs.Desk.{name_of}
use Rattle.sn_app.specs.Rows.{row_allocate}
use Rattle.sn_app.specs.World.{packet_at}
use Rattle.sn_worker.proofs.GivingBack.{few_free, gives_halts, gives_last, gives_none, more_free, named_none}
use Rattle.sn_worker.proofs.giving.give_one.Goals as goal

pub returns-then-frees-keep-clause-reads : goal.returns-then-frees-keep-clause-reads
returns-then-frees-keep-clause-reads g c =
    gives_none c.args.keep _ (few_free c.args.keep _ _ c.frees.ensures c.if-frees-keep.true)

pub returns-in_err-came-clause-reads : goal.returns-in_err-came-clause-reads
returns-in_err-came-clause-reads g c =
    let e : c.from_residual.result ≡ Err c.in_err-came.field-0.0 = search rules in
    rw e (gives_halts c.args.keep _ _ c.in_err-came.field-0.0
    (more_free c.args.keep _ _ c.frees.ensures c.if-frees-keep.false) c.in_err-came.ensures.reads)

pub returns-in-None-clause-reads : goal.returns-in-None-clause-reads
returns-in-None-clause-reads g c =
    let used = g.C.Ctx.used c.allocate.new.self in
    gives_last c.args.keep _ _ _ None _ (more_free c.args.keep _ _ c.frees.ensures c.if-frees-keep.false)
    (subst (λ place. OnTray row_allocate (g.C.Ctx.tray c.args.ctx.now) (g.C.Ctx.tray c.allocate.new.self) (named used (Ok place)))
    c.in-None.is c.in_ok-came.ensures.reads)
    (named_none _)

pub returns-in-Some-clause-reads : goal.returns-in-Some-clause-reads
returns-in-Some-clause-reads g c =
    let used = g.C.Ctx.used c.allocate.new.self in
    gives_last c.args.keep _ _ _ (Some (name_of (packet_at used c.in-Some.place))) _
    (more_free c.args.keep _ _ c.frees.ensures c.if-frees-keep.false)
    (subst (λ place. OnTray row_allocate (g.C.Ctx.tray c.args.ctx.now) (g.C.Ctx.tray c.allocate.new.self) (named used (Ok place)))
    c.in-Some.is c.in_ok-came.ensures.reads)
    c.give_or_free.ensures.reads
