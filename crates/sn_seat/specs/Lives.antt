-- A seat at work.
use Rattle.sn_app.specs.Desk.{Tray}
use Rattle.sn_app.specs.World.{Used}
use Rattle.sn_seat.specs.Trays.{captures_of, seat_tray, seat_used}
use Rattle.sn_seat.specs.declared.live.Live.{Live}

-- its tray, and the packets in use
abbrev pub live_tray : {G : Type 0} → Live G → Tray
live_tray live = seat_tray (captures_of live.shared.now) live.seat.now

abbrev pub live_used : {G : Type 0} → Live G → Used
live_used live = seat_used live.seat.now
