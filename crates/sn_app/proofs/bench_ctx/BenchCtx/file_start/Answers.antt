use Rattle.std.proofs.Common.{◌<◌, ◌∙◌, None, arith, length, sym}
use Rattle.std.proofs.lemmas.List.{get_or_read}
use Rattle.sn_app.specs.Bench.{tray_of}
use Rattle.sn_app.specs.Desk.{Tray}
use Rattle.sn_app.specs.Rows.{row_file_start}
use Rattle.sn_app.proofs.Filing.{lost_filed, row_begun}
use Rattle.sn_app.proofs.BenchFields.{state_of}
use Rattle.sn_app.proofs.OnTrays.{halt_lost}
use Rattle.sn_app.proofs.bench_ctx.BenchCtx.file_start.Goals as goal

pub returns-clause-reads : goal.returns-clause-reads
returns-clause-reads c =
    let b = c.self.inside in
    let t : Tray = tray_of (state_of b) in
    rw (sym c.self.view_is, c.in_ok-start.ensures.begun) (row_begun t c.args.file)

pub returns-in_err-start-clause-reads : goal.returns-in_err-start-clause-reads
returns-in_err-start-clause-reads c =
    let b = c.self.inside in
    let t : Tray = tray_of (state_of b) in
    let wanted = rw (sym c.self.view_is) at c.requires in
    let within : c.args.file < length b.files.items = omega (arith, wanted, c.self.invariant.files) in
    let there = get_or_read b.files.items c.args.file c.index_mut.result.now within c.index_mut.ensures.value None in
    rw (sym c.self.view_is, halt_lost c.from_residual.result c.from_residual.ensures.1)
    (lost_filed (row_file_start c.args.file) t c.args.file c.start.new.self (c.in_err-start.ensures.refused ∙ there))
