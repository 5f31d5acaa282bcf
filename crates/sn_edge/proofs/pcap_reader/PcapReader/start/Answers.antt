use Rattle.sn_app.specs.Apps.{name_in, starts}
use Rattle.sn_app.specs.World.{nowhere}
use Rattle.sn_edge.proofs.Starting.{runs_reads_from}
use Rattle.sn_edge.proofs.pcap_reader.PcapReader.start.Goals as goal

pub returns-clause-runs : goal.returns-clause-runs
unfolding starts
returns-clause-runs g c = λ slots.
    runs_reads_from (g.C.Ctx.used c.args.ctx.now) slots nowhere c.args.row c.capture_in-capture.result c.first-at.result
    (name_in c.args.arg.now) c.capture_in-capture.ensures c.first-at.ensures.first
