use Rattle.sn_crew.specs.Endings.{LeaveSeats}
use Rattle.sn_crew.proofs.leaving.close_slots.Given as goal

-- the places so far have left their seats
abbrev pub invariant-loop-place : goal.invariant-loop-place
invariant-loop-place g l = LeaveSeats l.fn.shared l.yielded l.seats.items
