use Rattle.std.proofs.Common.{Ok, subst, sym}
use Rattle.sn_app.specs.Apps.{number_or, reconfigs, truncate}
use Rattle.sn_app.specs.Runs.{Runs}
use Rattle.sn_app.specs.World.{nowhere, world}
use Rattle.sn_app.proofs.Running.{runs_pure}
use Rattle.sn_basic.proofs.truncate.TruncateApp.reconfig.Goals as goal

pub returns-clause-runs : goal.returns-clause-runs
unfolding reconfigs
returns-clause-runs g c = λ slots h.
    let w = world (g.C.Ctx.tray c.args._ctx.now) (g.C.Ctx.used c.args._ctx.now) slots in
    let row = c.args.self.now.row in
    subst (λ most. Runs (reconfigs c.args.arg.now (truncate row c.args.self.now.most)) w w nowhere nowhere (Ok (truncate row most)))
    (sym c.most_of-self.ensures) (runs_pure (truncate row (number_or 0 c.args.arg.now)) w nowhere)
