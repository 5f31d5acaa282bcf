use Rattle.std.proofs.Common.{◌≡◌, ◌-◌}
use Rattle.sn_app.specs.Calls.{LeavesEnds}
use Rattle.sn_app.specs.Reader.{times}
use Rattle.sn_app.specs.Rows.{most_refilled, refill_one}
use Rattle.sn_app.proofs.OnTrays.{Leads}
use Rattle.sn_seat.specs.Trays.{bond_of, captures_of, seat_tray, seat_used}
use Rattle.sn_seat.proofs.seat.Seat.refill.Given as goal

abbrev pub invariant-loop-turn : goal.invariant-loop-turn
invariant-loop-turn g l = record {
  leads : Leads (times (most_refilled - l._turn) refill_one) (times most_refilled refill_one)
      (seat_tray (captures_of l.shared) l.fn.self) (seat_tray (captures_of l.shared) l.self);
  used : seat_used l.self ≡ seat_used l.fn.self;
  leaves : LeavesEnds (seat_tray (captures_of l.shared) l.fn.self) (seat_tray (captures_of l.shared) l.self);
  kept : bond_of l.self ≡ bond_of l.fn.self;
}
