use Rattle.std.proofs.Common.{◌≡◌}
use Rattle.sn_app.specs.World.{nowhere}
use Rattle.sn_seat.specs.Lives.{live_tray, live_used}
use Rattle.seat_bench.specs.Lines.{CanReceive, CanSend}
use Rattle.seat_bench.specs.Wires.{IsWired}
use Rattle.seat_bench.proofs.ways.go.Given as goal

-- each app can run, each link is there with no place in hand, and both borrows are those that were lent
abbrev pub invariant-loop-round : goal.invariant-loop-round
invariant-loop-round l = record {
  sends : CanSend l.source l.transmitter (live_tray l.mine);
  sent : IsWired l.sent (live_tray l.mine) (live_used l.mine) nowhere;
  receives : CanReceive l.receiver l.sink (live_tray l.other);
  came : IsWired l.came (live_tray l.other) (live_used l.other) nowhere;
  lent : l.mine.seat.ghost_name ≡ l.fn.mine.seat.ghost_name;
  other_lent : l.other.seat.ghost_name ≡ l.fn.other.seat.ghost_name;
}
