-- What holds of the core at every moment: Sound, in seven parts.
use Rattle.std.specs.Prelude.{◌≡◌, ℕ, ◌+◌, ◌^◌, ◌<◌, ◌≤◌, ◌||◌, ◌==◌, if◌then◌else◌, Bool, false, Option, Some, None, is_some, IsSome, IsTrue, option_and_then, List, [], length, drop, slice_get, All, count_by, sum_by}
use Rattle.sn_core.specs.declared.parts.Packet.{Packet}
use Rattle.sn_core.specs.declared.parts.Cell.{Cell}
use Rattle.sn_core.specs.declared.parts.Cell.TheVariants.{Empty, Busy, Full}
use Rattle.sn_core.specs.declared.parts.Field.TheVariants.{Up}
use Rattle.sn_core.specs.Lane.{LaneState, is_up, is_down, is_free, unreleased, laid_count, most_queued, most_laid, most_unreleased}
use Rattle.sn_core.specs.Seat.{SeatState, highest_turn, most_claimed, turn_of, claims_of, claim_count, cell_count}
use Rattle.sn_core.specs.Core.{Core, pool, standing}

-- how many of these packets have this number
abbrev pub count_of : ℕ → List Packet → ℕ
count_of number packets = count_by (λ packet. packet.number == number) packets

-- the turn of the packet that seat s holds under this number
abbrev pub turn_at : Core → ℕ → ℕ → Option ℕ
turn_at core s number = option_and_then (turn_of number) (slice_get core.seats s)

-- how often this packet is laid at lanes, and claimed by seats
abbrev pub laid_total : Core → ℕ → ℕ
laid_total core number = sum_by (laid_count number) core.lanes

abbrev pub claim_total : Core → ℕ → ℕ
claim_total core number = sum_by (claim_count number) core.seats

-- how often seat s has claimed cell c: never where it isn't there
abbrev pub cell_count_in : ℕ → Option SeatState → ℕ
cell_count_in c None = 0
cell_count_in c (Some seat) = cell_count c seat

-- the cell is there, and busy with this seat
abbrev pub is_busy : ℕ → Option Cell → Bool
is_busy s None = false
is_busy s (Some Empty) = false
is_busy s (Some (Busy seat)) = seat == s
is_busy s (Some (Full packet)) = false

-- 1. Each number below the pool stands exactly once in full cells, filled places of queues and seats' lists, and no other does.
pub record StandsOnce (core : Core) : Type 0 where
  pub within : (n : ℕ) → n < pool core → count_of n (standing core) ≡ 1
  pub beyond : (n : ℕ) → pool core ≤ n → count_of n (standing core) ≡ 0

-- 2. A laid packet stands in the transmitting seat's list, and no packet is laid twice, claimed twice, or laid and claimed.
pub record LaidStands (core : Core) : Type 0 where
  pub held : (i n : ℕ) (lane : LaneState) → slice_get core.lanes i ≡ Some lane → 0 < laid_count n lane →
      IsSome (turn_at core lane.tx_seat n)
  pub once : (n : ℕ) → laid_total core n + claim_total core n ≤ 1

-- At most so many packets are laid at a lane, and its transmitter is up then.
pub record LaidFits (lane : LaneState) : Type 0 where
  pub few : length lane.laid ≤ most_laid
  pub up : 0 < length lane.laid → lane.tx ≡ Up

-- 3. A cell is Busy(s) exactly where s has a pending transfer with that cell, and it has the cell once then.
abbrev pub ClaimsAgree : Core → Type 0
ClaimsAgree core = (c s : ℕ) →
    cell_count_in c (slice_get core.seats s) ≡ (if is_busy s (slice_get core.cells c) then 1 else 0)

-- A seat's pending transfer has a cell, and at most so many; their packets stand in the seat's list.
pub record ClaimsStand (seat : SeatState) : Type 0 where
  pub some : IsSome seat.pending → 0 < length (claims_of seat)
  pub few : length (claims_of seat) ≤ most_claimed
  pub held : (n : ℕ) → 0 < claim_count n seat → IsSome (turn_of n seat)

-- 4. The queue's length is put less read; with the laid packets it is at most 1023. Its first places are emptied, as many as
-- takes and drains are unreleased, and no others: then the receiver is up, or an end closes.
pub record QueueIsWhole (lane : LaneState) : Type 0 where
  pub positions : lane.put ≡ lane.read + length lane.queue
  pub room : length lane.queue + length lane.laid ≤ most_queued
  pub few : unreleased lane.queue ≤ most_unreleased
  pub filled : All (λ place. IsSome place) (drop (unreleased lane.queue) lane.queue)
  pub emptied : 0 < unreleased lane.queue → IsTrue (is_up lane.rx || is_some lane.closes)

-- 5. Exactly one end closes where the lane is down, none else. Where it is free its queue is empty and nothing is laid.
pub record ClosesWhereDown (lane : LaneState) : Type 0 where
  pub closer : is_some lane.closes ≡ is_down lane
  pub queue : IsTrue (is_free lane) → lane.queue ≡ []
  pub laid : IsTrue (is_free lane) → lane.laid ≡ []

-- What parts 2, 4 and 5 say of one lane, and that its positions are bounded.
pub record LaneIsSound (lane : LaneState) : Type 0 where
  pub laid : LaidFits lane
  pub queue : QueueIsWhole lane
  pub closes : ClosesWhereDown lane
  pub put : lane.put ≤ 2 ^ 62

-- a lane that passes the test stays sound by the change
abbrev pub KeepsLane : (LaneState → Bool) → (LaneState → LaneState) → Type 0
KeepsLane test change = (lane : LaneState) → IsTrue (test lane) → LaneIsSound lane → LaneIsSound (change lane)

-- these packets are as many as are laid, and there are positions for them
pub record FollowsLaid (packets : List Packet) (lane : LaneState) : Type 0 where
  pub count : length packets ≡ length lane.laid
  pub put : lane.put + length packets ≤ 2 ^ 62

-- 6. Turns are at most 2^48 - 1. The sum of all `put` is at most the sum of all packets' turns, so every position is below 2^62.
pub record TurnsBound (core : Core) : Type 0 where
  pub turns : All (λ packet. packet.turn ≤ highest_turn) (standing core)
  pub positions : sum_by (λ lane. lane.put) core.lanes ≤ sum_by (λ packet. packet.turn) (standing core)
  pub below : All (λ lane. lane.put < 2 ^ 62) core.lanes

-- 7. What a seat heard is at most what was said to it.
abbrev pub HeardWasSaid : SeatState → Type 0
HeardWasSaid seat = seat.heard ≤ seat.said

-- What parts 3 and 7 say of one seat.
pub record SeatIsSound (seat : SeatState) : Type 0 where
  pub claims : ClaimsStand seat
  pub heard : HeardWasSaid seat

-- all seven
pub record IsSound (core : Core) : Type 0 where
  pub stands : StandsOnce core
  pub laid : LaidStands core
  pub claims : ClaimsAgree core
  pub lanes : All LaneIsSound core.lanes
  pub seats : All SeatIsSound core.seats
  pub turns : TurnsBound core
