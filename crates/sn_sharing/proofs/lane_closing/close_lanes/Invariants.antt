use Rattle.sn_sharing.proofs.LaneTurns.{ClosedTo}
use Rattle.sn_sharing.specs.LeftEnds.{lists}
use Rattle.sn_sharing.proofs.lane_closing.close_lanes.Given as goal

-- the interlinks so far are closed
abbrev pub invariant-loop-lane : goal.invariant-loop-lane
invariant-loop-lane l = record {
  can : (goal.iterator-loop-lane).can_next l.lane-iterator;
  finite : (goal.iterator-loop-lane).is_finite l.lane-iterator;
  to : ClosedTo l.lines (lists l.fn.ends.items) (lists l.ends.items) l.yielded l.receipts.items;
}
