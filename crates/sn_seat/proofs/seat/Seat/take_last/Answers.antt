use Rattle.std.proofs.Common.{refl}
use Rattle.sn_seat.specs.Trays.{seat_tray}
use Rattle.sn_seat.proofs.ClaimRows.{took_reads}
use Rattle.sn_seat.proofs.seat.Seat.take_last.Goals as goal

pub returns-clause-reads : goal.returns-clause-reads
returns-clause-reads c =
    λ captures. took_reads (seat_tray captures c.args.self.now) c.args.self.now.ledger.hold c.take_free.new.self
    c.take_free.result refl
    c.take_free.ensures.none c.take_free.ensures.frees c.take_free.ensures.used
