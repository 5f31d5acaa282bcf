-- What the machine keeps beside Sound: its sizes, and that what is about to be handed over isn't worn.
use Rattle.std.specs.Prelude.{◌≡◌, ℕ, ◌<◌, ◌≤◌, Option, Some, None, IsTrue, length, slice_get, All}
use Rattle.sn_core.specs.declared.parts.Phase.{Phase}
use Rattle.sn_core.specs.declared.parts.Phase.TheVariants.{Taking, Giving, GivenIn}
use Rattle.sn_core.specs.Lane.{LaneState, laid_count}
use Rattle.sn_core.specs.Seat.{SeatState, Transfer, is_fresh, turn_of, claim_count}
use Rattle.sn_core.specs.Core.{Core, pool, standing}
use Rattle.sn_core.specs.Sound.{turn_at, IsSound}

-- both ends of a lane are seats that are there
pub record JoinsSeats (seats : ℕ) (lane : LaneState) : Type 0 where
  pub tx : lane.tx_seat < seats
  pub rx : lane.rx_seat < seats

pub record HasShape (core : Core) : Type 0 where
  pub size : pool core ≤ 16384
  pub lanes : length core.lanes ≤ 16
  pub seats : length core.seats ≤ 16
  pub ends : All (JoinsSeats (length core.seats)) core.lanes
  pub tables : All (λ seat. length seat.held ≡ pool core) core.seats
  pub total : length (standing core) ≡ pool core

-- the transfer is a giving
abbrev pub Gives : Phase → Type 0
Gives (Taking out) = ⊥
Gives Giving = Unit {0}
Gives GivenIn = Unit {0}

abbrev pub IsGiving : Option Transfer → Type 0
IsGiving None = ⊥
IsGiving (Some transfer) = Gives transfer.phase

-- what a seat gives isn't worn
pub record GivesFresh (seat : SeatState) : Type 0 where
  pub fresh : (n : ℕ) → IsGiving seat.pending → 0 < claim_count n seat → IsTrue (is_fresh (turn_of n seat))

pub record IsUnworn (core : Core) : Type 0 where
  pub laid : (i n : ℕ) (lane : LaneState) → slice_get core.lanes i ≡ Some lane → 0 < laid_count n lane →
      IsTrue (is_fresh (turn_at core lane.tx_seat n))
  pub given : All GivesFresh core.seats

pub record IsKept (core : Core) : Type 0 where
  pub sound : IsSound core
  pub shape : HasShape core
  pub unworn : IsUnworn core
