-- answers of src/opening.rt, seat_of
use Rattle.std.proofs.Common.{◌∙◌, ap, length}
use Rattle.sn_app.specs.Desk.{Tray, roster_of}
use Rattle.sn_seat.specs.Trays.{no_captures}
use Rattle.seat_rig.proofs.opening.seat_of.Goals as goal

pub returns-clause-apps : goal.returns-clause-apps
returns-clause-apps c =
    ap (λ (t : Tray). length (roster_of t).apps) (c.in_ok-seat.ensures.tray no_captures) ∙ c.in_ok-roster.ensures.apps

pub returns-clause-lanes : goal.returns-clause-lanes
returns-clause-lanes c =
    ap (λ (t : Tray). (roster_of t).lanes) (c.in_ok-seat.ensures.tray no_captures) ∙ c.in_ok-roster.ensures.lanes
