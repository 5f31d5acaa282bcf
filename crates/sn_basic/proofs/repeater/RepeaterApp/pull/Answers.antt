use Rattle.sn_packet.specs.Hold.{among}
use Rattle.sn_app.specs.Apps.{pulls, repeater}
use Rattle.sn_app.specs.Hands.{packets_at}
use Rattle.sn_app.specs.Ports.{slots_of}
use Rattle.sn_app.specs.World.{Used, world}
use Rattle.sn_app.proofs.Running.{runs_pure}
use Rattle.sn_basic.proofs.repeater.RepeaterApp.pull.Goals as goal

pub returns-clause-runs : goal.returns-clause-runs
unfolding pulls
returns-clause-runs g c =
    let u : Used = g.C.Ctx.used c.args._ctx.now in
    let kept = c.args.self.now.kept.items in
    runs_pure (repeater c.args.self.now.row (packets_at u kept) c.args.self.now.next)
    (world (g.C.Ctx.tray c.args._ctx.now) u (slots_of c.args._ports.now)) (among kept)
