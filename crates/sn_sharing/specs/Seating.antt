-- How the workers of a run are seated, one after another.
use Rattle.std.specs.Prelude.{ℕ, ◌-◌, ◌≡◌, ◌++◌, List, [], ◌∷◌, Some, None, length, map, slice_get}
use Rattle.std.specs.List.{range_with_len}
use Rattle.sn_channel.specs.Ends.{ChannelId, speaker_log}
use Rattle.sn_group.specs.Seats.{GroupId, SeatState, new_seat}
use Rattle.sn_scenario.specs.Plans.{roster_of}
use Rattle.sn_scenario.specs.Scenarios.{ScenarioForm}
use Rattle.sn_seat.specs.Fitting.{Bond}
use Rattle.sn_seat.specs.Openings.{all_ends, new_tray}
use Rattle.sn_seat.specs.SeatEnds.{wires}
use Rattle.sn_seat.specs.Trays.{bond_of, seat_tray, seat_used}
use Rattle.sn_seat.specs.declared.ends.Ends.{Ends}
use Rattle.sn_seat.specs.declared.seat.Seat.{Seat}
use Rattle.sn_sharing.specs.Opened.{stops_of}
use Rattle.sn_sharing.specs.declared.seating.Seated.{Seated}

-- the bond of a worker that opens with these ends, in this group, on this channel
abbrev pub new_bond : ScenarioForm → ℕ → Ends → GroupId → ChannelId → Bond
new_bond form worker ends of channel = record {
  worker = worker;
  wiring = record {
    ends = wires (all_ends ends.tx.items ends.rx.items);
    group = of;
    channel = channel;
    met = 0;
  };
  captures = length form.captures;
  lanes = length (roster_of worker form).lanes;
}

-- the seat of a worker that opens with these
pub record IsSeatedWith (form : ScenarioForm) (worker : ℕ) (ends : Ends) (of : GroupId) (channel : ChannelId) (seat : Seat)
    : Type 0 where
  pub tray : (captures : List (List ℕ)) → seat_tray captures seat
      ≡ new_tray (stops_of worker form.stops) (roster_of worker form) captures (all_ends ends.tx.items ends.rx.items)
  pub used : (place : ℕ) → seat_used seat place ≡ None
  pub bond : bond_of seat ≡ new_bond form worker ends of channel

-- one worker more is seated, on a channel of its own
pub record AddsWorker (form : ScenarioForm) (ends : Ends) (of : GroupId) (old new : Seated) : Type 0 where
  pub channel : ChannelId
  pub seat : Seat
  pub channels : new.channels.items ≡ old.channels.items ++ channel ∷ []
  pub speakers : new.speakers.items ≡ old.speakers.items ++ speaker_log channel [] ∷ []
  pub seats : new.seats.items ≡ old.seats.items ++ seat ∷ []
  pub is : IsSeatedWith form (length old.seats.items) ends of channel seat

-- the seats of the group that are left for the workers from this one on
abbrev pub seats_left : GroupId → ℕ → ℕ → List SeatState
seats_left of workers worker = map (new_seat of) (range_with_len worker (workers - worker))

-- workers are seated, each with its ends, on a channel of its own
pub record AreSeated (form : ScenarioForm) (all : List Ends) (of : GroupId) (seated : Seated) : Type 0 where
  pub channels : length seated.channels.items ≡ length seated.seats.items
  pub speakers : seated.speakers.items ≡ map (λ channel. speaker_log channel []) seated.channels.items
  pub as_many : length seated.seats.items ≡ length all
  pub each : (worker : ℕ) (seat : Seat) (channel : ChannelId) (ends : Ends) → slice_get seated.seats.items worker ≡ Some seat
      → slice_get seated.channels.items worker ≡ Some channel → slice_get all worker ≡ Some ends
      → IsSeatedWith form worker ends of channel seat
