use Rattle.sn_app.specs.Apps.{reconfigs, tee}
use Rattle.sn_app.specs.World.{nowhere, world}
use Rattle.sn_app.proofs.Running.{runs_pure}
use Rattle.sn_basic.proofs.tee.TeeApp.reconfig.Goals as goal

pub returns-clause-runs : goal.returns-clause-runs
unfolding reconfigs
returns-clause-runs g c = λ slots h.
    runs_pure (tee c.args.self.now.row) (world (g.C.Ctx.tray c.args._ctx.now) (g.C.Ctx.used c.args._ctx.now) slots) nowhere
