-- The new ends of interlinks that each worker gets.
use Rattle.std.specs.Prelude.{ℕ, ◌+◌, ◌<◌, ◌==◌, ◌≡◌, ◌++◌, if◌then◌else◌, List, [], ◌∷◌, length, map, slice_index_or, slice_set}
use Rattle.sn_core.specs.declared.events.Side.{Side}
use Rattle.sn_core.specs.declared.events.Side.TheVariants.{Rx, Tx}
use Rattle.sn_interlink.specs.Ends.{LaneEnd, LaneId, new_lane_end}
use Rattle.sn_scenario.specs.declared.lane.Lane.{Lane}
use Rattle.sn_seat.specs.declared.ends.Ends.{Ends}
use Rattle.sn_sharing.specs.Bonds.{worker_on}

-- the transmitters and the receivers of each worker
abbrev pub txs : List Ends → List (List (ℕ × LaneEnd))
txs all = map (λ ends. ends.tx.items) all

abbrev pub rxs : List Ends → List (List (ℕ × LaneEnd))
rxs all = map (λ ends. ends.rx.items) all

-- the ends of a worker, by its place
abbrev pub ends_at : List (List (ℕ × LaneEnd)) → ℕ → List (ℕ × LaneEnd)
ends_at all worker = slice_index_or all worker []

-- A worker's new ends on one side, of interlinks that are numbered from this number on.
abbrev pub new_ends : Side → ℕ → ℕ → List Lane → List LaneId → List (ℕ × LaneEnd)
new_ends side worker number [] ids = []
new_ends side worker number (lane ∷ lanes) [] = []
new_ends side worker number (lane ∷ lanes) (id ∷ ids) =
    (if worker_on side lane == worker then (number, new_lane_end id side) ∷ [] else [])
    ++ new_ends side worker (number + 1) lanes ids

-- each worker has the new ends that the interlinks' lines give it
pub record AreLaid (workers : ℕ) (lanes : List Lane) (ids : List LaneId) (all : List Ends) : Type 0 where
  pub as_many : length ids ≡ length lanes
  pub each_one : length all ≡ workers
  pub tx : (worker : ℕ) → worker < workers → ends_at (txs all) worker ≡ new_ends Tx worker 0 lanes ids
  pub rx : (worker : ℕ) → worker < workers → ends_at (rxs all) worker ≡ new_ends Rx worker 0 lanes ids

-- one interlink more is laid, and its two workers have its ends behind their others
pub record AddsLane (lane : Lane) (ids : List LaneId) (all : List Ends) (more : List LaneId) (new : List Ends) : Type 0 where
  pub id : LaneId
  pub ids_are : more ≡ ids ++ id ∷ []
  pub tx : txs new ≡ slice_set (txs all) lane.tx (ends_at (txs all) lane.tx ++ (length ids, new_lane_end id Tx) ∷ [])
  pub rx : rxs new ≡ slice_set (rxs all) lane.rx (ends_at (rxs all) lane.rx ++ (length ids, new_lane_end id Rx) ∷ [])
  pub len : length new ≡ length all
