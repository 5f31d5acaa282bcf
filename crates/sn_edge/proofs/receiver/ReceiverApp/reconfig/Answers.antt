use Rattle.std.proofs.Common.{◌≡◌, Err, rules}
use Rattle.sn_app.specs.Apps.{name_in, receives_from, reconfigs}
use Rattle.sn_app.specs.World.{nowhere}
use Rattle.sn_app.proofs.Leaving.{runs_kept}
use Rattle.sn_app.proofs.Running.{runs_bind, runs_fail}
use Rattle.sn_edge.proofs.Starting.{runs_receives_from}
use Rattle.sn_edge.proofs.receiver.ReceiverApp.reconfig.Goals as goal

pub returns-in_err-lane_detach-clause-runs : goal.returns-in_err-lane_detach-clause-runs
unfolding reconfigs
returns-in_err-lane_detach-clause-runs g c = λ slots h.
    let e : c.from_residual.result ≡ Err c.in_err-lane_detach.field-0.0 = search rules in
    rw e (runs_fail (λ done. receives_from c.args.self.now.row (name_in c.args.arg.now)) nowhere
    (runs_kept (g.C.Ctx.used c.args.ctx.now)
    (g.C.Ctx.used c.lane_detach.new.self) slots nowhere c.in_err-lane_detach.ensures.reads
    c.in_err-lane_detach.ensures.used))

pub returns-clause-runs : goal.returns-clause-runs
unfolding reconfigs
returns-clause-runs g c = λ slots h.
    let v = g.C.Ctx.used c.lane_detach.new.self in
    runs_bind (λ done. receives_from c.args.self.now.row (name_in c.args.arg.now))
    (runs_kept (g.C.Ctx.used c.args.ctx.now) v slots nowhere c.in_ok-lane_detach.ensures.reads c.in_ok-lane_detach.ensures.used)
    (runs_receives_from v slots nowhere c.args.self.now.row c.lane_in-lane.result (name_in c.args.arg.now) c.lane_in-lane.ensures)
