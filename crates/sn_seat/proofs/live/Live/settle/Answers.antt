use Rattle.sn_seat.specs.Trays.{captures_of}
use Rattle.sn_seat.proofs.live.Live.settle.Goals as goal

pub returns-clause-tray : goal.returns-clause-tray
returns-clause-tray g c = c.settle.ensures.tray (captures_of c.args.self.now.shared.now)
