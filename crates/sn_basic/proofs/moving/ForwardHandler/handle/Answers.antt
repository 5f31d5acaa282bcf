use Rattle.sn_app.specs.Ports.{out_row, slots_of}
use Rattle.sn_app.specs.World.{packet_at}
use Rattle.sn_app.proofs.Making.{runs_sends_counted}
use Rattle.sn_basic.proofs.moving.ForwardHandler.handle.Goals as goal

pub returns-clause-runs : goal.returns-clause-runs
returns-clause-runs g c =
    runs_sends_counted (g.C.Ctx.used c.send.new.ctx) (g.C.Ctx.used c.count.new.self) (slots_of c.send.new.ports) c.args.self.now.app
    (out_row c.args.ports.now c.args.self.now.o) (packet_at (g.C.Ctx.used c.args.ctx.now) c.args.place) c.send.ensures.runs
    c.count.ensures.tray c.count.ensures.used
