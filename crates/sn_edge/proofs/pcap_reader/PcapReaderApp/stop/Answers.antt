use Rattle.std.proofs.Common.{true}
use Rattle.sn_app.specs.Apps.{stops}
use Rattle.sn_app.specs.World.{nowhere, world}
use Rattle.sn_app.proofs.Running.{runs_pure}
use Rattle.sn_edge.proofs.pcap_reader.PcapReaderApp.stop.Goals as goal

pub returns-clause-runs : goal.returns-clause-runs
unfolding stops
returns-clause-runs g c = λ slots h.
    runs_pure true (world (g.C.Ctx.tray c.args._ctx.now) (g.C.Ctx.used c.args._ctx.now) slots) nowhere
