-- To what the workers of a run belong: which ends of interlinks each has, and which shared objects these are.
use Rattle.std.specs.Prelude.{ℕ, ◌+◌, ◌==◌, ◌≡◌, ◌++◌, if◌then◌else◌, List, [], ◌∷◌, Some, length, slice_get}
use Rattle.sn_core.specs.declared.events.Side.{Side}
use Rattle.sn_core.specs.declared.events.Side.TheVariants.{Rx, Tx}
use Rattle.sn_interlink.specs.Ends.{LaneId}
use Rattle.sn_scenario.specs.declared.lane.Lane.{Lane}
use Rattle.sn_seat.specs.Fitting.{Bond}
use Rattle.sn_seat.specs.SeatEnds.{Wire}
use Rattle.sn_seat.specs.Trays.{bond_of}
use Rattle.sn_seat.specs.declared.seat.Seat.{Seat}
use Rattle.sn_seat.specs.declared.shared.Shared.{Shared}

-- the worker that has an interlink's end of this side
abbrev pub worker_on : Side → Lane → ℕ
worker_on Tx lane = lane.tx
worker_on Rx lane = lane.rx

-- A worker's ends on one side, of interlinks that are numbered from this number on: the number, the side, and which interlink it
-- is.
abbrev pub wires_on : Side → ℕ → ℕ → List Lane → List LaneId → List Wire
wires_on side worker number [] ids = []
wires_on side worker number (lane ∷ lanes) [] = []
wires_on side worker number (lane ∷ lanes) (id ∷ ids) =
    (if worker_on side lane == worker then (number, side, id) ∷ [] else []) ++ wires_on side worker (number + 1) lanes ids

-- all ends of a worker: its transmitters, then its receivers
abbrev pub wires_at : ℕ → List Lane → List LaneId → List Wire
wires_at worker lanes ids = wires_on Tx worker 0 lanes ids ++ wires_on Rx worker 0 lanes ids

-- The worker of this number belongs here: its ends are those that the interlinks' lines give it, its group is the shared one, its
-- channel is the one at its number, and it knows as many captures as there are.
pub record IsBondAt (lanes : List Lane) (shared : Shared) (worker : ℕ) (bond : Bond) : Type 0 where
  pub number : bond.worker ≡ worker
  pub ends : bond.wiring.ends ≡ wires_at worker lanes shared.lanes.items
  pub group_is : bond.wiring.group ≡ shared.group.id
  pub channel : slice_get shared.channels.items worker ≡ Some bond.wiring.channel
  pub captures_are : bond.captures ≡ length shared.captures.items
  pub lanes_are : bond.lanes ≡ length lanes

-- each seat belongs where the worker of its place does
abbrev pub AreBonded : List Lane → Shared → List Seat → Type 0
AreBonded lanes shared seats =
    (worker : ℕ) (seat : Seat) → slice_get seats worker ≡ Some seat → IsBondAt lanes shared worker (bond_of seat)
