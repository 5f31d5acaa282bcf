use Rattle.std.proofs.Common.{Ok, subst, sym}
use Rattle.sn_app.specs.Apps.{byte_filter, byte_of, reconfigs}
use Rattle.sn_app.specs.Runs.{Runs}
use Rattle.sn_app.specs.World.{nowhere, world}
use Rattle.sn_app.proofs.Running.{runs_pure}
use Rattle.sn_basic.proofs.byte_filter.ByteFilterApp.reconfig.Goals as goal

pub returns-clause-runs : goal.returns-clause-runs
unfolding reconfigs
returns-clause-runs g c = λ slots h.
    let w = world (g.C.Ctx.tray c.args._ctx.now) (g.C.Ctx.used c.args._ctx.now) slots in
    let row = c.args.self.now.row in
    let s = byte_filter row c.args.self.now.offset c.args.self.now.value in
    subst (λ offset. Runs (reconfigs c.args.arg.now s) w w nowhere nowhere (Ok (byte_filter row offset c.byte_in-offset.result.1))) (sym c.byte_in-offset.ensures.offset)
    (subst (λ value. Runs (reconfigs c.args.arg.now s) w w nowhere nowhere (Ok (byte_filter row (byte_of c.args.arg.now).0 value))) (sym c.byte_in-offset.ensures.value)
    (runs_pure (byte_filter row (byte_of c.args.arg.now).0 (byte_of c.args.arg.now).1) w nowhere))
