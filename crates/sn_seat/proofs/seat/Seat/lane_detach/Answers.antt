use Rattle.std.proofs.Common.{refl, ap, ◌∙◌}
use Rattle.sn_app.specs.Gates.{working}
use Rattle.sn_app.specs.Rows.{row_detach}
use Rattle.sn_seat.specs.SeatEnds.{desk_state}
use Rattle.sn_seat.specs.Trays.{captures_of, seat_tray}
use Rattle.sn_seat.proofs.DetachRows.{detach_out}
use Rattle.sn_seat.proofs.LaneRows.{lost_same}
use Rattle.sn_seat.proofs.seat.Seat.lane_detach.Goals as goal

pub returns-in-Out-clause-reads : goal.returns-in-Out-clause-reads
returns-in-Out-clause-reads g c =
    detach_out (seat_tray (captures_of c.args.shared.now) c.args.self.now) c.args.lane c.args.side
    (c.state_at.ensures ∙ ap desk_state c.in-Out.is)

pub returns-in-Closing-clause-reads : goal.returns-in-Closing-clause-reads
returns-in-Closing-clause-reads g c = lost_same (row_detach working c.args.lane c.args.side) _ _ refl
