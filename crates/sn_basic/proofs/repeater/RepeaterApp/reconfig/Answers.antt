use Rattle.sn_packet.specs.Hold.{among}
use Rattle.sn_app.specs.Apps.{reconfigs, repeater}
use Rattle.sn_app.specs.Hands.{packets_at}
use Rattle.sn_app.specs.World.{Used, world}
use Rattle.sn_app.proofs.Running.{runs_pure}
use Rattle.sn_basic.proofs.repeater.RepeaterApp.reconfig.Goals as goal

pub returns-clause-runs : goal.returns-clause-runs
unfolding reconfigs
returns-clause-runs g c = λ slots h.
    let u : Used = g.C.Ctx.used c.args._ctx.now in
    let kept = c.args.self.now.kept.items in
    runs_pure (repeater c.args.self.now.row (packets_at u kept) c.args.self.now.next)
    (world (g.C.Ctx.tray c.args._ctx.now) u slots) (among kept)
