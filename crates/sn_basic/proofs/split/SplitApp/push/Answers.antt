use Rattle.std.proofs.Common.{◌≡◌, Err, rules}
use Rattle.sn_app.specs.Apps.{pushes, split}
use Rattle.sn_app.specs.World.{nowhere}
use Rattle.sn_app.proofs.Looping.{did_stays}
use Rattle.sn_app.proofs.Making.{runs_staying, runs_staying_halt}
use Rattle.sn_basic.specs.Counts.{HasRow-stays}
use Rattle.sn_basic.proofs.split.SplitApp.push.Goals as goal

pub returns-clause-runs : goal.returns-clause-runs
unfolding pushes
returns-clause-runs g c = runs_staying (split c.args.self.now.row) c.in_ok-split_inputs.ensures.did.runs

pub returns-in_err-split_inputs-clause-runs : goal.returns-in_err-split_inputs-clause-runs
unfolding pushes
returns-in_err-split_inputs-clause-runs g c =
    let e : c.from_residual.result ≡ Err c.in_err-split_inputs.field-0.0 = search rules in
    rw e (runs_staying_halt (split c.args.self.now.row) nowhere c.in_err-split_inputs.ensures.did.runs)

pub returns-clause-ready : goal.returns-clause-ready
returns-clause-ready g c =
    HasRow-stays c.args.self.now.row (g.C.Ctx.tray c.args.ctx.now) (g.C.Ctx.tray c.split_inputs.new.ctx)
    (did_stays c.in_ok-split_inputs.ensures.did) c.requires.ready
