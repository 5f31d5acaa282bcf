use Rattle.std.proofs.Common.{Ok, subst, sym}
use Rattle.sn_app.specs.Apps.{number_or, reconfigs, sample}
use Rattle.sn_app.specs.Runs.{Runs}
use Rattle.sn_app.specs.World.{nowhere, world}
use Rattle.sn_app.proofs.Running.{runs_pure}
use Rattle.sn_basic.proofs.sample.SampleApp.reconfig.Goals as goal

pub returns-clause-runs : goal.returns-clause-runs
unfolding reconfigs
returns-clause-runs g c = λ slots h.
    let w = world (g.C.Ctx.tray c.args._ctx.now) (g.C.Ctx.used c.args._ctx.now) slots in
    let row = c.args.self.now.row in
    let seen = c.args.self.now.seen in
    subst (λ n. Runs (reconfigs c.args.arg.now (sample row c.args.self.now.n seen)) w w nowhere nowhere (Ok (sample row n seen)))
    (sym c.n_of-n.ensures.value) (runs_pure (sample row (number_or 1 c.args.arg.now) seen) w nowhere)
