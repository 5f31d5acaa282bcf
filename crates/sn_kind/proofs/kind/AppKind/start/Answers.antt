use Rattle.std.proofs.Common.{◌≡◌, None, ap, sym, subst}
use Rattle.sn_app.specs.Apps.{join, sink, split, starts, tee}
use Rattle.sn_basic.specs.Counts.{HasRow}
use Rattle.sn_kind.proofs.Starting.{runs_start}
use Rattle.sn_kind.proofs.kind.AppKind.start.Goals as goal

pub returns-in_ok-start-in-Source-clause-runs : goal.returns-in_ok-start-in-Source-clause-runs
unfolding starts
returns-in_ok-start-in-Source-clause-runs g c =
    runs_start g.C.Ctx.tray g.C.Ctx.used (starts c.args.class c.args.arg.now c.args.row)
    (ap (λ class. starts class c.args.arg.now c.args.row) c.in-Source.is)
    c.in_ok-start-in-Source.ensures.started c.in_ok-start-in-Source.ensures.same

pub returns-in_ok-start-in-Sink-clause-runs : goal.returns-in_ok-start-in-Sink-clause-runs
unfolding starts
returns-in_ok-start-in-Sink-clause-runs g c =
    runs_start g.C.Ctx.tray g.C.Ctx.used (starts c.args.class c.args.arg.now c.args.row)
    (ap (λ class. starts class c.args.arg.now c.args.row) c.in-Sink.is)
    (ap sink c.in_ok-start-in-Sink.ensures.started) c.in_ok-start-in-Sink.ensures.same

pub returns-in_ok-start-in-Tee-clause-runs : goal.returns-in_ok-start-in-Tee-clause-runs
unfolding starts
returns-in_ok-start-in-Tee-clause-runs g c =
    runs_start g.C.Ctx.tray g.C.Ctx.used (starts c.args.class c.args.arg.now c.args.row)
    (ap (λ class. starts class c.args.arg.now c.args.row) c.in-Tee.is)
    (ap tee c.in_ok-start-in-Tee.ensures.started) c.in_ok-start-in-Tee.ensures.same

pub returns-in_ok-start-in-Join-clause-runs : goal.returns-in_ok-start-in-Join-clause-runs
unfolding starts
returns-in_ok-start-in-Join-clause-runs g c =
    runs_start g.C.Ctx.tray g.C.Ctx.used (starts c.args.class c.args.arg.now c.args.row)
    (ap (λ class. starts class c.args.arg.now c.args.row) c.in-Join.is)
    (ap join c.in_ok-start-in-Join.ensures.started) c.in_ok-start-in-Join.ensures.same

pub returns-in_ok-start-in-Split-clause-runs : goal.returns-in_ok-start-in-Split-clause-runs
unfolding starts
returns-in_ok-start-in-Split-clause-runs g c =
    runs_start g.C.Ctx.tray g.C.Ctx.used (starts c.args.class c.args.arg.now c.args.row)
    (ap (λ class. starts class c.args.arg.now c.args.row) c.in-Split.is)
    (ap split c.in_ok-start-in-Split.ensures.started) c.in_ok-start-in-Split.ensures.same

pub returns-in_ok-start-in-Repeater-clause-runs : goal.returns-in_ok-start-in-Repeater-clause-runs
unfolding starts
returns-in_ok-start-in-Repeater-clause-runs g c =
    runs_start g.C.Ctx.tray g.C.Ctx.used (starts c.args.class c.args.arg.now c.args.row)
    (ap (λ class. starts class c.args.arg.now c.args.row) c.in-Repeater.is)
    (c.in_ok-start-in-Repeater.ensures.started (g.C.Ctx.used c.start-in-Repeater.new.ctx)) c.in_ok-start-in-Repeater.ensures.same

pub returns-in_ok-start-in-Truncate-clause-runs : goal.returns-in_ok-start-in-Truncate-clause-runs
unfolding starts
returns-in_ok-start-in-Truncate-clause-runs g c =
    runs_start g.C.Ctx.tray g.C.Ctx.used (starts c.args.class c.args.arg.now c.args.row)
    (ap (λ class. starts class c.args.arg.now c.args.row) c.in-Truncate.is)
    c.in_ok-start-in-Truncate.ensures.started c.in_ok-start-in-Truncate.ensures.same

pub returns-in_ok-start-in-Sample-clause-runs : goal.returns-in_ok-start-in-Sample-clause-runs
unfolding starts
returns-in_ok-start-in-Sample-clause-runs g c =
    runs_start g.C.Ctx.tray g.C.Ctx.used (starts c.args.class c.args.arg.now c.args.row)
    (ap (λ class. starts class c.args.arg.now c.args.row) c.in-Sample.is)
    c.in_ok-start-in-Sample.ensures.started c.in_ok-start-in-Sample.ensures.same

pub returns-in_ok-start-in-ByteFilter-clause-runs : goal.returns-in_ok-start-in-ByteFilter-clause-runs
unfolding starts
returns-in_ok-start-in-ByteFilter-clause-runs g c =
    runs_start g.C.Ctx.tray g.C.Ctx.used (starts c.args.class c.args.arg.now c.args.row)
    (ap (λ class. starts class c.args.arg.now c.args.row) c.in-ByteFilter.is)
    c.in_ok-start-in-ByteFilter.ensures.started c.in_ok-start-in-ByteFilter.ensures.same

pub returns-in_ok-start-in-Repeater-clause-ready : goal.returns-in_ok-start-in-Repeater-clause-ready
returns-in_ok-start-in-Repeater-clause-ready g c =
    let started = c.in_ok-start-in-Repeater.ensures.started (λ place. None) in
    let is : c.in_ok-start-in-Repeater.field-0.row ≡ c.args.row = cc in
    subst (λ row. HasRow row (g.C.Ctx.tray c.start-in-Repeater.new.ctx)) (sym is)
    (subst (λ ctx. HasRow c.args.row (g.C.Ctx.tray ctx)) (sym c.in_ok-start-in-Repeater.ensures.same) c.requires.row)

pub returns-in_ok-start-in-PcapWriter-clause-runs : goal.returns-in_ok-start-in-PcapWriter-clause-runs
returns-in_ok-start-in-PcapWriter-clause-runs g c = rw c.in-PcapWriter.is c.in_ok-start-in-PcapWriter.ensures.runs
