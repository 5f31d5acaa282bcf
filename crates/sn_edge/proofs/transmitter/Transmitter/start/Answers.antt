use Rattle.sn_app.specs.Apps.{name_in, starts}
use Rattle.sn_app.specs.World.{nowhere}
use Rattle.sn_edge.proofs.Starting.{runs_transmits_to}
use Rattle.sn_edge.proofs.transmitter.Transmitter.start.Goals as goal

pub returns-clause-runs : goal.returns-clause-runs
unfolding starts
returns-clause-runs g c = λ slots.
    runs_transmits_to (g.C.Ctx.used c.args.ctx.now) slots nowhere c.args.row c.lane_in-lane.result (name_in c.args.arg.now)
    c.lane_in-lane.ensures
