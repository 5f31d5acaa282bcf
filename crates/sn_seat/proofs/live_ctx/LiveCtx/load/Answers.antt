use Rattle.sn_seat.specs.Trays.{captures_of}
use Rattle.sn_seat.proofs.live_ctx.LiveCtx.load.Goals as goal

pub returns-clause-tray : goal.returns-clause-tray
returns-clause-tray g c = c.fill.ensures.tray (captures_of c.args.self.now.shared.now)
