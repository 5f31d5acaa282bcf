use Rattle.sn_app.specs.Ports.{slots_of}
use Rattle.sn_app.specs.World.{packet_at}
use Rattle.sn_app.specs.declared.counters.Counter.TheVariants.{Packets}
use Rattle.sn_app.proofs.Calling.{runs_free}
use Rattle.sn_app.proofs.Making.{runs_frees_counted}
use Rattle.sn_basic.proofs.sink.DiscardHandler.handle.Goals as goal

pub returns-clause-runs : goal.returns-clause-runs
returns-clause-runs g c =
    let u = g.C.Ctx.used c.args.ctx.now in
    let v = g.C.Ctx.used c.free.new.self in
    let slots = slots_of c.args._ports.now in
    runs_frees_counted v (g.C.Ctx.used c.count.new.self) slots c.args.self.now.app Packets (packet_at u c.args.place)
    (runs_free u v slots c.args.place c.requires.sound c.free.ensures.tray c.free.ensures.used) c.count.ensures.tray c.count.ensures.used
