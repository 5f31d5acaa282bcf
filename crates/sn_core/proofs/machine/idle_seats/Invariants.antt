use Rattle.std.proofs.Common.{◌≡◌, replicate}
use Rattle.sn_core.specs.Seat.{idle_seat}
use Rattle.sn_core.proofs.machine.idle_seats.Given as goal

abbrev pub invariant-loop-seat : goal.invariant-loop-seat
invariant-loop-seat l = l.idle.items ≡ replicate l._seat (idle_seat l.pool)
