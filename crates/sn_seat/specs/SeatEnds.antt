-- The ends of a seat by the numbers of their interlinks, and how each stands on a desk.
use Rattle.std.specs.Prelude.{ℕ, ◌+◌, ◌==◌, ◌&&◌, Bool, true, if◌then◌else◌, List, [], ◌∷◌, length, map}
use Rattle.std.specs.List.{list_any}
use Rattle.sn_core.specs.declared.events.Side.{Side}
use Rattle.sn_core.specs.declared.events.Side.TheVariants.{Tx, Rx}
use Rattle.sn_interlink.specs.Ends.{LaneEnd, LaneId, reach_of}
use Rattle.sn_interlink.specs.declared.view.EndState.{EndState}
use Rattle.sn_interlink.specs.declared.view.EndState.TheVariants as lane
use Rattle.sn_app.specs.Desk.{End, out_end, same_side}
use Rattle.sn_app.specs.declared.end_state.EndState.{EndState as DeskState}
use Rattle.sn_app.specs.declared.end_state.EndState.TheVariants as desk
use Rattle.sn_seat.specs.declared.seat_end.SeatEnd.{SeatEnd}
use Rattle.sn_seat.specs.declared.seat_end.SeatEnd.TheVariants.{Transmitter, Receiver}

-- the end itself, and its side
abbrev pub end_in : SeatEnd → LaneEnd
end_in (Transmitter e) = e
end_in (Receiver e) = e

abbrev pub side_in : SeatEnd → Side
side_in (Transmitter e) = Tx
side_in (Receiver e) = Rx

-- an end with the number of its interlink
abbrev pub Numbered : Type 0
Numbered = ℕ × SeatEnd

abbrev pub is_at : ℕ → Side → Numbered → Bool
is_at number side x = x.0 == number && same_side (side_in x.1) side

-- How an end stands on a desk: what it knows counts while it is up, and its position is lost only between attaching and reading
-- it.
abbrev pub desk_state : EndState → DeskState
desk_state lane.Out = desk.Out
desk_state lane.Up = desk.Up
desk_state lane.Closing = desk.Closing

abbrev pub known_by : EndState → ℕ → ℕ
known_by lane.Out n = 0
known_by lane.Up n = n
known_by lane.Closing n = 0

abbrev pub synced_by : EndState → Bool → Bool
synced_by lane.Out synced = true
synced_by lane.Up synced = synced
synced_by lane.Closing synced = synced

abbrev pub desk_end : LaneEnd → End
desk_end e = record {
  state = desk_state e.state;
  known = known_by e.state (reach_of e);
  laid = e.laid;
  unreleased = length e.unreleased;
  synced = synced_by e.state e.synced;
}

-- the ends by interlink and side
abbrev pub ends_in : List Numbered → ℕ → Side → End
ends_in [] number side = out_end
ends_in (x ∷ ends) number side = if is_at number side x then desk_end (end_in x.1) else ends_in ends number side

-- how many positions an interlink's end of a side may move
abbrev pub reach_in : List Numbered → ℕ → Side → ℕ
reach_in [] number side = 0
reach_in (x ∷ ends) number side = if is_at number side x then reach_of (end_in x.1) else reach_in ends number side

-- how often an interlink has an end here, on both sides together
abbrev pub times_at : ℕ → List Numbered → ℕ
times_at number [] = 0
times_at number (x ∷ ends) = (if x.0 == number then 1 else 0) + times_at number ends

-- which end is which interlink's: its number, its side, and which interlink it is
abbrev pub Wire : Type 0
Wire = ℕ × Side × LaneId

abbrev pub wire_of : Numbered → Wire
wire_of x = (x.0, side_in x.1, (end_in x.1).lane)

abbrev pub wires : List Numbered → List Wire
wires ends = map wire_of ends

abbrev pub wire_is_at : ℕ → Side → Wire → Bool
wire_is_at number side w = w.0 == number && same_side w.1 side

-- a seat has an end
abbrev pub has_wire : List Wire → ℕ → Side → Bool
has_wire ends number side = list_any (wire_is_at number side) ends
