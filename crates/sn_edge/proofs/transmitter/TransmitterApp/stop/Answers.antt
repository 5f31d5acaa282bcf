use Rattle.sn_app.specs.Apps.{stops}
use Rattle.sn_app.specs.World.{nowhere}
use Rattle.sn_app.proofs.Leaving.{runs_kept, runs_then_true}
use Rattle.sn_edge.proofs.transmitter.TransmitterApp.stop.Goals as goal

pub returns-clause-runs : goal.returns-clause-runs
unfolding stops
returns-clause-runs g c = λ slots h.
    runs_then_true c.lane_detach.result
    (runs_kept (g.C.Ctx.used c.args.ctx.now) (g.C.Ctx.used c.lane_detach.new.self) slots nowhere c.lane_detach.ensures.reads
    c.lane_detach.ensures.used)
