use Rattle.std.proofs.Common.{Ok, subst, sym}
use Rattle.sn_app.specs.Apps.{number_or, reconfigs, source, usual_size}
use Rattle.sn_app.specs.Runs.{Runs}
use Rattle.sn_app.specs.World.{nowhere, world}
use Rattle.sn_app.proofs.Running.{runs_pure}
use Rattle.sn_basic.proofs.source.SourceApp.reconfig.Goals as goal

pub returns-clause-runs : goal.returns-clause-runs
unfolding reconfigs
returns-clause-runs g c = λ slots h.
    let w = world (g.C.Ctx.tray c.args._ctx.now) (g.C.Ctx.used c.args._ctx.now) slots in
    let row = c.args.self.now.row in
    subst (λ size. Runs (reconfigs c.args.arg.now (source row c.args.self.now.size)) w w nowhere nowhere (Ok (source row size)))
    (sym c.size_of-self.ensures.size) (runs_pure (source row (number_or usual_size c.args.arg.now)) w nowhere)
