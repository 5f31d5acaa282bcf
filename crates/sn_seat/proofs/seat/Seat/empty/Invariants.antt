use Rattle.std.proofs.Common.{◌≡◌, IsSome, IsTrue, false}
use Rattle.sn_packet.specs.Hold.{frees_of}
use Rattle.sn_app.specs.Calls.{LeavesOtherEnds}
use Rattle.sn_app.specs.Rows.{drain_one}
use Rattle.sn_app.specs.declared.end_state.EndState.TheVariants.{Closing}
use Rattle.sn_seat.specs.LaneSteps.{AtEnd, Stands}
use Rattle.sn_seat.specs.SeatEnds.{reach_in}
use Rattle.sn_seat.specs.Settling.{phase_by}
use Rattle.sn_seat.specs.Trays.{bond_of, captures_of, seat_tray, seat_used}
use Rattle.sn_seat.proofs.Again.{Repeats}
use Rattle.sn_seat.proofs.seat.Seat.empty.Given as goal

abbrev pub invariant-loop : goal.invariant-loop
invariant-loop l = record {
  repeats : Repeats (drain_one (phase_by l.freeing) l.lane l.side) (seat_tray (captures_of l.shared) l.fn.self)
      (seat_tray (captures_of l.shared) l.self);
  closing : Stands l.self.ledger.ends.items l.lane l.side Closing;
  loaded : AtEnd l.self.ledger.ends.items l.lane l.side (λ e. IsSome e.reach);
  used : IsTrue l.freeing → seat_used l.self ≡ seat_used l.fn.self;
  frees : l.freeing ≡ false → frees_of l.self.ledger.hold ≡ frees_of l.fn.self.ledger.hold;
  leaves : LeavesOtherEnds l.lane l.side (seat_tray (captures_of l.shared) l.fn.self) (seat_tray (captures_of l.shared) l.self);
  kept : bond_of l.self ≡ bond_of l.fn.self;
}

abbrev pub decreases-loop : goal.decreases-loop
decreases-loop l = reach_in l.self.ledger.ends.items l.lane l.side
