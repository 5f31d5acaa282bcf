use Rattle.std.proofs.Common.{◌≤◌, arith, length}
use Rattle.sn_app.proofs.Claiming.{refill_full, refill_unneeded}
use Rattle.sn_seat.specs.Trays.{captures_of, seat_tray}
use Rattle.sn_seat.proofs.seat.Seat.refill_where_empty.Goals as goal

pub returns-then-frees-gt0-clause-reads : goal.returns-then-frees-gt0-clause-reads
returns-then-frees-gt0-clause-reads g c =
    let s = c.args.self.now in
    refill_unneeded (seat_tray (captures_of c.args.shared.now) s) s.ledger.hold
    (omega (arith, c.if-frees-gt0.true, c.frees.ensures))

pub returns-clause-reads : goal.returns-clause-reads
returns-clause-reads g c =
    let s = c.args.self.now in
    let none : length s.ledger.hold.free ≤ 0 = omega (arith, c.if-frees-gt0.false, c.frees.ensures) in
    refill_full s.ledger.hold none c.refill.ensures.reads
