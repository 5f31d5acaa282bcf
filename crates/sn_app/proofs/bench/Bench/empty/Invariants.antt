use Rattle.std.proofs.Common.{◌≡◌, length}
use Rattle.sn_packet.specs.Hold.{used_of}
use Rattle.sn_app.specs.Bench.{PlaysOn, ends_of, tray_of}
use Rattle.sn_app.specs.Calls.{LeavesOtherEnds}
use Rattle.sn_app.specs.Desk.{closing_end}
use Rattle.sn_app.specs.Gates.{working}
use Rattle.sn_app.specs.Reader.{repeated}
use Rattle.sn_app.specs.Rows.{drain_one}
use Rattle.sn_app.proofs.DetachPlays.{OnlyLanes}
use Rattle.sn_app.proofs.bench.Bench.empty.Given as goal

abbrev pub invariant-loop : goal.invariant-loop
invariant-loop l = record {
  plays : PlaysOn (repeated (drain_one working l.lane l.side)) (tray_of l.fn.self) (tray_of l.self) l.fn.self.script
      l.self.script;
  closing : ends_of l.self.lanes l.lane l.side ≡ closing_end 0;
  used : used_of l.self.held ≡ used_of l.fn.self.held;
  leaves : LeavesOtherEnds l.lane l.side (tray_of l.fn.self) (tray_of l.self);
  rest : OnlyLanes l.fn.self l.self;
}

abbrev pub decreases-loop : goal.decreases-loop
decreases-loop l = length l.self.script
