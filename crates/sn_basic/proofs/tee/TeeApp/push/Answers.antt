use Rattle.std.proofs.Common.{◌≡◌, Err, rules}
use Rattle.sn_app.specs.Apps.{pushes, tee}
use Rattle.sn_app.specs.World.{nowhere}
use Rattle.sn_app.proofs.Looping.{did_stays}
use Rattle.sn_app.proofs.Making.{runs_staying, runs_staying_halt}
use Rattle.sn_basic.specs.Counts.{HasRow-stays}
use Rattle.sn_basic.proofs.tee.TeeApp.push.Goals as goal

pub returns-clause-runs : goal.returns-clause-runs
unfolding pushes
returns-clause-runs g c = runs_staying (tee c.args.self.now.row) c.in_ok-copy_all.ensures.did.runs

pub returns-in_err-copy_all-clause-runs : goal.returns-in_err-copy_all-clause-runs
unfolding pushes
returns-in_err-copy_all-clause-runs g c =
    let e : c.from_residual.result ≡ Err c.in_err-copy_all.field-0.0 = search rules in
    rw e (runs_staying_halt (tee c.args.self.now.row) nowhere c.in_err-copy_all.ensures.did.runs)

pub returns-clause-ready : goal.returns-clause-ready
returns-clause-ready g c =
    HasRow-stays c.args.self.now.row (g.C.Ctx.tray c.args.ctx.now) (g.C.Ctx.tray c.copy_all.new.ctx)
    (did_stays c.in_ok-copy_all.ensures.did) c.requires.ready
