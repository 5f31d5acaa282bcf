use Rattle.sn_app.specs.Apps.{pushes, receiver}
use Rattle.sn_app.specs.Ports.{slots_of}
use Rattle.sn_app.specs.World.{nowhere, world}
use Rattle.sn_app.proofs.Running.{runs_pure}
use Rattle.sn_edge.proofs.receiver.ReceiverApp.push.Goals as goal

pub returns-clause-runs : goal.returns-clause-runs
unfolding pushes
returns-clause-runs g c =
    runs_pure (receiver c.args.self.now.row c.args.self.now.lane)
    (world (g.C.Ctx.tray c.args._ctx.now) (g.C.Ctx.used c.args._ctx.now) (slots_of c.args._ports.now)) nowhere
