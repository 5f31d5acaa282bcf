use Rattle.std.proofs.Common.{refl, ap, ◌∙◌}
use Rattle.sn_app.specs.Rows.{row_attach}
use Rattle.sn_seat.specs.SeatEnds.{desk_state}
use Rattle.sn_seat.specs.Trays.{captures_of, seat_tray}
use Rattle.sn_seat.proofs.AttachRows.{attach_up}
use Rattle.sn_seat.proofs.LaneRows.{lost_same}
use Rattle.sn_seat.proofs.seat.Seat.lane_attach.Goals as goal

pub returns-in-Up-clause-reads : goal.returns-in-Up-clause-reads
returns-in-Up-clause-reads g c =
    attach_up (seat_tray (captures_of c.args.shared.now) c.args.self.now) c.args.lane c.args.side
    (c.state_at.ensures ∙ ap desk_state c.in-Up.is)

pub returns-in-Closing-clause-reads : goal.returns-in-Closing-clause-reads
returns-in-Closing-clause-reads g c = lost_same (row_attach c.args.lane c.args.side) _ _ refl
