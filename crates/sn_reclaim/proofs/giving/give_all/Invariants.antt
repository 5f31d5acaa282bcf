use Rattle.std.proofs.Common.{◌≡◌}
use Rattle.sn_app.specs.Calls.{LeavesEnds}
use Rattle.sn_seat.specs.Tellings.{seat_hold}
use Rattle.sn_seat.specs.Trays.{bond_of, captures_of, seat_tray, seat_used}
use Rattle.sn_seat.proofs.Again.{Repeats}
use Rattle.sn_reclaim.specs.Attempts.{give_or_end}
use Rattle.sn_reclaim.specs.Lefts.{Walks}
use Rattle.sn_reclaim.proofs.Walking.{left_to}
use Rattle.sn_reclaim.proofs.giving.give_all.Given as goal

-- the packets before the next place are given or free, and those from it on are still to be
abbrev pub invariant-loop-left : goal.invariant-loop-left
invariant-loop-left l = record {
  repeats : Repeats give_or_end (seat_tray (captures_of l.shared) l.fn.seat) (seat_tray (captures_of l.shared) l.seat);
  walks : Walks l.left (seat_hold l.seat) (seat_used l.seat);
  leaves : LeavesEnds (seat_tray (captures_of l.shared) l.fn.seat) (seat_tray (captures_of l.shared) l.seat);
  kept : bond_of l.seat ≡ bond_of l.fn.seat;
}

abbrev pub decreases-loop-left : goal.decreases-loop-left
decreases-loop-left l = left_to l.left
