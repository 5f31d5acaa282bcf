use Rattle.std.proofs.Common.{◌≡◌, Err, rules}
use Rattle.sn_app.specs.Apps.{pulls, source}
use Rattle.sn_app.specs.World.{nowhere}
use Rattle.sn_app.proofs.Looping.{did_stays}
use Rattle.sn_app.proofs.Making.{runs_staying, runs_staying_halt}
use Rattle.sn_basic.specs.Counts.{HasRow-stays}
use Rattle.sn_basic.proofs.source.SourceApp.pull.Goals as goal

pub returns-clause-runs : goal.returns-clause-runs
unfolding pulls
returns-clause-runs g c = runs_staying (source c.args.self.now.row c.args.self.now.size) c.in_ok-send_bursts.ensures.did.runs

pub returns-in_err-send_bursts-clause-runs : goal.returns-in_err-send_bursts-clause-runs
unfolding pulls
returns-in_err-send_bursts-clause-runs g c =
    let e : c.from_residual.result ≡ Err c.in_err-send_bursts.field-0.0 = search rules in
    rw e (runs_staying_halt (source c.args.self.now.row c.args.self.now.size) nowhere c.in_err-send_bursts.ensures.did.runs)

pub returns-clause-ready : goal.returns-clause-ready
returns-clause-ready g c =
    HasRow-stays c.args.self.now.row (g.C.Ctx.tray c.args.ctx.now) (g.C.Ctx.tray c.send_bursts.new.ctx)
    (did_stays c.in_ok-send_bursts.ensures.did) c.requires.ready
