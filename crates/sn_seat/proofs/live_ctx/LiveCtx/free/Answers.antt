use Rattle.sn_seat.specs.Trays.{captures_of}
use Rattle.sn_seat.proofs.live_ctx.LiveCtx.free.Goals as goal

pub returns-clause-tray : goal.returns-clause-tray
returns-clause-tray g c = c.free.ensures.tray (captures_of c.args.self.now.shared.now)
