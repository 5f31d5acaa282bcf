use Rattle.sn_seat.specs.Trays.{captures_of}
use Rattle.sn_seat.proofs.live_ctx.LiveCtx.file_append.Goals as goal

pub returns-clause-reads : goal.returns-clause-reads
returns-clause-reads g c = c.file_append.ensures.reads (captures_of c.args.self.now.shared.now)

pub returns-clause-leaves : goal.returns-clause-leaves
returns-clause-leaves g c = c.file_append.ensures.leaves (captures_of c.args.self.now.shared.now)
