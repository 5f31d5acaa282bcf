use Rattle.sn_seat.specs.Trays.{captures_of}
use Rattle.sn_seat.proofs.live_ctx.LiveCtx.file_start.Goals as goal

pub returns-clause-leaves : goal.returns-clause-leaves
returns-clause-leaves g c = c.file_start.ensures.leaves (captures_of c.args.self.now.shared.now)
