-- What a run of a scenario opens with.
use Rattle.std.specs.Prelude.{ℕ, ◌==◌, ◌≡◌, Bool, true, false, List, [], Option, Some, None, filter, length, map, replicate}
use Rattle.std.specs.Prelude.{slice_get}
use Rattle.sn_app.specs.Desk.{Tray, nothing, out_end}
use Rattle.sn_channel.specs.Ends.{ChannelId, SpeakerLog}
use Rattle.sn_core.specs.declared.events.Side.{Side}
use Rattle.sn_group.specs.Seats.{GroupState}
use Rattle.sn_scenario.specs.Plans.{roster_of}
use Rattle.sn_scenario.specs.Scenarios.{ScenarioForm}
use Rattle.sn_scenario.specs.declared.lane.Lane.{Lane}
use Rattle.sn_scenario.specs.declared.stop.StopLine.{StopLine}
use Rattle.sn_seat.specs.Openings.{new_counters}
use Rattle.sn_seat.specs.Trays.{Fits, bond_of, seat_tray, seat_used}
use Rattle.sn_seat.specs.declared.seat.Seat.{Seat}
use Rattle.sn_seat.specs.declared.shared.Shared.{Shared}
use Rattle.sn_sharing.specs.Bonds.{IsBondAt, worker_on}
use Rattle.sn_sharing.specs.Pools.{pool_packets}

-- the scenario gives the worker an interlink's end of this side
abbrev pub is_end_of : Option Lane → ℕ → Side → Bool
is_end_of None worker side = false
is_end_of (Some lane) worker side = worker_on side lane == worker

abbrev pub has_end_of : List Lane → ℕ → ℕ → Side → Bool
has_end_of lanes worker number side = is_end_of (slice_get lanes number) worker side

-- a worker's stop lines: numbers of entries, and of gates behind the last of them
abbrev pub is_stop_of : ℕ → StopLine → Bool
is_stop_of worker stop = stop.worker == worker

abbrev pub stop_pair : StopLine → ℕ × ℕ
stop_pair stop = (stop.entries, stop.gates)

abbrev pub stops_of : ℕ → List StopLine → List (ℕ × ℕ)
stops_of worker stops = map stop_pair (filter (is_stop_of worker) stops)

-- The tray that a worker opens with: no entry, no packet, each of its ends out, nothing counted and no file started. Any entry
-- may come, and none from a script.
abbrev pub opening_tray : ScenarioForm → List (List ℕ) → ℕ → Tray
opening_tray form captures worker = record {
  log = record {
    past = [];
    constants = record {
      may = λ entry. true;
      stops = stops_of worker form.stops;
      scripted = false;
      roster = roster_of worker form;
      captures = captures;
      has_end = has_end_of form.lanes worker;
    };
  };
  gates = 0;
  free = [];
  pending = nothing;
  ends = λ lane side. out_end;
  counters = new_counters (roster_of worker form);
  files = replicate (length form.outputs) None;
}

-- A worker's seat that opens: its tray, that it holds no packet, that it is one of these shared objects, and where it belongs.
-- Its listener never met its speaker.
pub record IsOpenedSeat (form : ScenarioForm) (shared : Shared) (worker : ℕ) (seat : Seat) : Type 0 where
  pub tray : (captures : List (List ℕ)) → seat_tray captures seat ≡ opening_tray form captures worker
  pub used : (place : ℕ) → seat_used seat place ≡ None
  pub fits : Fits seat shared
  pub bond : IsBondAt form.lanes shared worker (bond_of seat)
  pub unmet : (bond_of seat).wiring.met ≡ 0

-- one seat for each worker, by the workers' numbers
pub record AreOpenedSeats (form : ScenarioForm) (shared : Shared) (seats : List Seat) : Type 0 where
  pub as_many : length seats ≡ form.settings.workers
  pub each : (worker : ℕ) (seat : Seat) → slice_get seats worker ≡ Some seat → IsOpenedSeat form shared worker seat

-- the group has the pool's packets in its cells, in their order, and a seat for each worker
pub record IsOpenedGroup (form : ScenarioForm) (group_is : GroupState) : Type 0 where
  pub packets : group_is.opened ≡ pool_packets form.settings.pool
  pub seats : group_is.seats ≡ form.settings.workers

-- the speakers are those of these channels, in their order, and said nothing
pub record AreSilent (speakers : List SpeakerLog) (channels : List ChannelId) : Type 0 where
  pub of : map (λ speaker. speaker.channel) speakers ≡ channels
  pub said : (worker : ℕ) (speaker : SpeakerLog) → slice_get speakers worker ≡ Some speaker → speaker.said ≡ []
