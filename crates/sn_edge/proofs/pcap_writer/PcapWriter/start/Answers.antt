use Rattle.std.proofs.Common.{◌≡◌, Err, rules}
use Rattle.sn_app.specs.Apps.{name_in, starts}
use Rattle.sn_app.specs.World.{nowhere}
use Rattle.sn_edge.proofs.Starting.{runs_writes_to, runs_writes_to_halt}
use Rattle.sn_edge.proofs.pcap_writer.PcapWriter.start.Goals as goal

pub returns-in_err-file_start-clause-runs : goal.returns-in_err-file_start-clause-runs
unfolding starts
returns-in_err-file_start-clause-runs g c = λ slots.
    let e : c.from_residual.result ≡ Err c.in_err-file_start.field-0.0 = search rules in
    rw e (runs_writes_to_halt (g.C.Ctx.used c.args.ctx.now) (g.C.Ctx.used c.file_start.new.self) slots nowhere nowhere c.args.row
    c.file_in-file.result (name_in c.args.arg.now) c.file_in-file.ensures c.in_err-file_start.ensures.reads
    c.in_err-file_start.ensures.used)

pub returns-clause-runs : goal.returns-clause-runs
unfolding starts
returns-clause-runs g c = λ slots.
    runs_writes_to (g.C.Ctx.used c.args.ctx.now) (g.C.Ctx.used c.file_start.new.self) slots nowhere nowhere c.args.row
    c.file_in-file.result (name_in c.args.arg.now) c.file_in-file.ensures c.in_ok-file_start.ensures.reads
    c.in_ok-file_start.ensures.used
