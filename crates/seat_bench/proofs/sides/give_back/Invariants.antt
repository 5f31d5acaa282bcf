use Rattle.std.proofs.Common.{◌≡◌}
use Rattle.sn_app.specs.Calls.{LeavesEnds}
use Rattle.sn_seat.specs.Lives.{live_tray, live_used}
use Rattle.seat_bench.proofs.sides.give_back.Given as goal

-- the same packets are in use, and what never changes, files and ends stay
abbrev pub invariant-loop-turn : goal.invariant-loop-turn
invariant-loop-turn l = record {
  used : live_used l.live ≡ live_used l.fn.live;
  leaves : LeavesEnds (live_tray l.fn.live) (live_tray l.live);
  lent : l.live.seat.ghost_name ≡ l.fn.live.seat.ghost_name;
}
