-- A seat that has done nothing.
use Rattle.std.specs.Prelude.{ℕ, ◌≡◌, ◌≤◌, List, [], ◌++◌, map, replicate, length, Some, None, slice_get}
use Rattle.sn_group.specs.Seats.{SeatState, new_seat}
use Rattle.sn_interlink.specs.Ends.{LaneEnd, new_lane_end}
use Rattle.sn_link.specs.Counts.{no_counts}
use Rattle.sn_names.specs.Rosters.{RosterRows}
use Rattle.sn_app.specs.Counts.{CounterRows, no_app_counts}
use Rattle.sn_app.specs.Desk.{Tray}
use Rattle.sn_seat.specs.SeatEnds.{Numbered, end_in, ends_in, side_in, times_at, wires}
use Rattle.sn_seat.specs.Trays.{constants_by, tray_by}
use Rattle.sn_seat.specs.declared.seat_end.SeatEnd.TheVariants.{Transmitter, Receiver}

abbrev pub as_transmitter : ℕ × LaneEnd → Numbered
as_transmitter x = (x.0, Transmitter x.1)

abbrev pub as_receiver : ℕ × LaneEnd → Numbered
as_receiver x = (x.0, Receiver x.1)

-- transmitters and receivers together
abbrev pub all_ends : List (ℕ × LaneEnd) → List (ℕ × LaneEnd) → List Numbered
all_ends tx rx = map as_transmitter tx ++ map as_receiver rx

-- each end is new, and an interlink has one of them at most
pub record AreNew (ends : List Numbered) : Type 0 where
  pub once : (number : ℕ) → times_at number ends ≤ 1
  pub each : (k : ℕ) (x : Numbered) → slice_get ends k ≡ Some x → end_in x.1 ≡ new_lane_end (end_in x.1).lane (side_in x.1)

-- the group's seat is new, and nothing was heard
abbrev pub IsNewSeat : SeatState → Type 0
IsNewSeat seat = seat ≡ new_seat seat.group seat.number

-- the counters and files before anything was done
abbrev pub new_counters : RosterRows → CounterRows
new_counters roster = record {
  apps = replicate (length roster.apps) no_app_counts;
  links = replicate (length roster.links) no_counts;
}

-- the tray of a new seat
abbrev pub new_tray : List (ℕ × ℕ) → RosterRows → List (List ℕ) → List Numbered → Tray
new_tray stops roster captures ends =
    tray_by (constants_by stops roster captures (wires ends)) [] 0 [] (ends_in ends) (new_counters roster)
    (replicate (length roster.files) None)
