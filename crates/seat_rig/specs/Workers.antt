-- A worker of a rig: a seat with an end of one interlink, and with names for two apps.
use Rattle.std.specs.Prelude.{ℕ, ◌≡◌, ◌≤◌, IsTrue, [], ◌∷◌, length, None, Some, slice_get}
use Rattle.sn_channel.specs.Ends.{ListenerLog}
use Rattle.sn_core.specs.declared.events.Side.{Side}
use Rattle.sn_core.specs.declared.events.Side.TheVariants.{Tx}
use Rattle.sn_group.specs.Seats.{SeatState}
use Rattle.sn_interlink.specs.Ends.{LaneEnd, new_lane_end}
use Rattle.sn_app.specs.Desk.{Tray, roster_of}
use Rattle.sn_app.specs.World.{Used}
use Rattle.sn_seat.specs.Openings.{IsNewSeat}
use Rattle.sn_seat.specs.Trays.{Fits, seat_used, tray_in}
use Rattle.sn_seat.specs.declared.seat.Seat.{Seat}
use Rattle.sn_seat.specs.declared.shared.Shared.{Shared}

-- a context with the interlink's end of this side, whose names are those of two apps and of the interlink, x
pub record HasNames (side : Side) (t : Tray) : Type 0 where
  pub end : IsTrue (t.log.constants.has_end 0 side)
  pub apps : length (roster_of t).apps ≡ 2
  pub lanes : (roster_of t).lanes ≡ (120 ∷ []) ∷ []

-- no packet is held and not free
abbrev pub HasNone : Used → Type 0
HasNone used = (place : ℕ) → used place ≡ None

-- a seat that has done nothing, over these shared objects
pub record IsNewWorker (side : Side) (shared : Shared) (seat : Seat) : Type 0 where
  pub fits : Fits seat shared
  pub names : HasNames side (tray_in shared seat)
  pub none : HasNone (seat_used seat)

-- what the first worker gets: the new transmitter of interlink 0, a new seat of the group, and its channel's listener
pub record IsForFirst (shared : Shared) (tx : LaneEnd) (seat : SeatState) (listener : ListenerLog) : Type 0 where
  pub lane : slice_get shared.lanes.items 0 ≡ Some tx.lane
  pub tx_new : tx ≡ new_lane_end tx.lane Tx
  pub group : seat.group ≡ shared.group.id
  pub seat_new : IsNewSeat seat
  pub channel : slice_get shared.channels.items 0 ≡ Some listener.channel
  pub unheard : listener.heard ≡ []
  pub captures : length shared.captures.items ≡ 0
  pub one : length shared.lanes.items ≤ 1
