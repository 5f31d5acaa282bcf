-- What the machine's facts say of one lane or seat of it.
use Rattle.std.proofs.Common.{◌≡◌, ℕ, ◌<◌, ◌^◌, Bool, true, false, is_some, Option, List, [], ◌∷◌, length, Some, None, IsSome, refl, sym, ap, ◌∙◌, subst, arith, slice_get, cond, eqb}
use Rattle.std.proofs.lemmas.Option.{slice_get_within}
use Rattle.std.specs.Prelude.{unwrap_or}
use Rattle.std.specs.List.{sum_by}
use Rattle.std.proofs.lemmas.Bool.{ltb-true, eq-eqb, eqb-true}
use Rattle.std.proofs.lemmas.List.Sums.{sum_by-cons}
use Rattle.sn_core.specs.declared.events.Side.{Side}
use Rattle.sn_core.specs.declared.events.Side.TheVariants.{Tx, Rx}
use Rattle.sn_core.specs.declared.parts.Packet.{Packet}
use Rattle.sn_core.specs.declared.parts.Cell.{Cell}
use Rattle.sn_core.specs.declared.parts.Cell.TheVariants.{Empty, Busy, Full}
use Rattle.sn_core.specs.declared.parts.Claim.{Claim}
use Rattle.sn_core.specs.declared.parts.Phase.{Phase}
use Rattle.sn_core.specs.declared.parts.Phase.TheVariants.{Taking, Giving, GivenIn}
use Rattle.sn_core.specs.Lane.{LaneState, seat_of, first_filled, laid_count}
use Rattle.sn_core.specs.Seat.{SeatState, Transfer, highest_turn, turn_of, is_fresh, claims_of, claim_count, cell_count, has_pending, has_given, is_given_in}
use Rattle.sn_core.specs.Core.{Core, pool}
use Rattle.sn_core.specs.Sound.{LaneIsSound, SeatIsSound, turn_at, cell_count_in, is_busy}
use Rattle.sn_core.specs.Invariant.{IsKept, JoinsSeats, Gives, IsGiving, GivesFresh}
use Rattle.sn_core.proofs.Weights.{All_at, slot_from_turn}
use Rattle.sn_core.proofs.Counts.{below_pool, lane_counts, cell_counts}

-- both ends are seats that are there
pub end_in : (core : Core) → IsKept core → (i : ℕ) (lane : LaneState) (side : Side) → slice_get core.lanes i ≡ Some lane → seat_of side lane < length core.seats
end_in core kept i lane Tx at = (All_at (JoinsSeats (length core.seats)) core.lanes i lane kept.shape.ends at).tx
end_in core kept i lane Rx at = (All_at (JoinsSeats (length core.seats)) core.lanes i lane kept.shape.ends at).rx

-- each seat has an entry for each packet
pub table_is : (core : Core) → IsKept core → (s : ℕ) (seat : SeatState) → slice_get core.seats s ≡ Some seat → length seat.held ≡ pool core
table_is core kept s seat at = All_at (λ x. length x.held ≡ pool core) core.seats s seat kept.shape.tables at

-- the first packet of a queue is one of the pool
pub first_in : (core : Core) → IsKept core → (i : ℕ) (lane : LaneState) (packet : Packet) → slice_get core.lanes i ≡ Some lane → first_filled lane.queue ≡ Some packet → packet.number < pool core
first_in core kept i lane packet at first = below_pool core kept.sound.stands packet.number (lane_counts core i lane packet at first)

pub lane_at : (core : Core) → IsKept core → (i : ℕ) (lane : LaneState) → slice_get core.lanes i ≡ Some lane → LaneIsSound lane
lane_at core kept i lane at = All_at LaneIsSound core.lanes i lane kept.sound.lanes at

pub seat_at : (core : Core) → IsKept core → (s : ℕ) (seat : SeatState) → slice_get core.seats s ≡ Some seat → SeatIsSound seat
seat_at core kept s seat there = All_at SeatIsSound core.seats s seat kept.sound.seats there

pub given_at : (core : Core) → IsKept core → (s : ℕ) (seat : SeatState) → slice_get core.seats s ≡ Some seat → GivesFresh seat
given_at core kept s seat there = All_at GivesFresh core.seats s seat kept.unworn.given there

pub put_below : (core : Core) → IsKept core → (i : ℕ) (lane : LaneState) → slice_get core.lanes i ≡ Some lane → lane.put < 2 ^ 62
put_below core kept i lane at = All_at (λ x. x.put < 2 ^ 62) core.lanes i lane kept.sound.turns.below at

-- of a seat with one claim
pub one_cell : (seat : SeatState) (claim : Claim) → claims_of seat ≡ claim ∷ [] → (c : ℕ) → cell_count c seat ≡ cond (eqb claim.cell c) 1 0
one_cell seat claim one c = omega (arith, ap (λ cs. sum_of cs) one, sum_by-cons (λ x. cond (eqb x.cell c) 1 0) claim []) where
  sum_of : List Claim → ℕ
  sum_of cs = sum_by (λ x. cond (eqb x.cell c) 1 0) cs

pub one_packet : (seat : SeatState) (claim : Claim) → claims_of seat ≡ claim ∷ [] → (n : ℕ) → claim_count n seat ≡ cond (eqb claim.packet n) 1 0
one_packet seat claim one n = omega (arith, ap (λ cs. sum_of cs) one, sum_by-cons (λ x. cond (eqb x.packet n) 1 0) claim []) where
  sum_of : List Claim → ℕ
  sum_of cs = sum_by (λ x. cond (eqb x.packet n) 1 0) cs

abbrev one_if : Bool → ℕ
one_if b = cond b 1 0

pub claimed_cell : (seat : SeatState) (claim : Claim) → claims_of seat ≡ claim ∷ [] → cell_count claim.cell seat ≡ 1
claimed_cell seat claim one = one_cell seat claim one claim.cell ∙ ap one_if (eq-eqb claim.cell claim.cell refl)

pub claimed_packet : (seat : SeatState) (claim : Claim) → claims_of seat ≡ claim ∷ [] → claim_count claim.packet seat ≡ 1
claimed_packet seat claim one = one_packet seat claim one claim.packet ∙ ap one_if (eq-eqb claim.packet claim.packet refl)

-- a claimed cell is busy with its seat
busy_is : (s : ℕ) (o : Option Cell) → one_if (is_busy s o) ≡ 1 → o ≡ Some (Busy s)
busy_is s None e = cc
busy_is s (Some Empty) e = cc
busy_is s (Some (Full packet)) e = cc
busy_is s (Some (Busy a)) e = ap (λ x. Some (Busy x)) (eqb-true a s (is_true (eqb a s) e)) where
  is_true : (b : Bool) → one_if b ≡ 1 → b ≡ true
  is_true true e = refl
  is_true false e = cc

pub claimed_busy : (core : Core) → IsKept core → (s : ℕ) (seat : SeatState) (claim : Claim) → slice_get core.seats s ≡ Some seat → claims_of seat ≡ claim ∷ [] → slice_get core.cells claim.cell ≡ Some (Busy s)
claimed_busy core kept s seat claim there one =
    let agrees = kept.sound.claims claim.cell s in
    let count : cell_count_in claim.cell (slice_get core.seats s) ≡ 1 = rw there (claimed_cell seat claim one) in
    busy_is s (slice_get core.cells claim.cell) (sym agrees ∙ count)

pub claimed_in : (core : Core) → IsKept core → (s : ℕ) (seat : SeatState) (claim : Claim) → slice_get core.seats s ≡ Some seat → claims_of seat ≡ claim ∷ [] → claim.cell < length core.cells
claimed_in core kept s seat claim there one =
    slice_get_within core.cells claim.cell (Busy s) (claimed_busy core kept s seat claim there one)

-- what a seat holds is a packet of the pool
pub held_in : (seat : SeatState) (n : ℕ) → IsSome (turn_of n seat) → n < length seat.held
held_in seat n some = go (turn_of n seat) refl some where
  go : (o : Option ℕ) → turn_of n seat ≡ o → is_some o ≡ true → n < length seat.held
  go None is e = cc
  go (Some turn) is e = slice_get_within seat.held n (Some turn) (slot_from_turn seat n turn is)

pub cell_packet_in : (core : Core) → IsKept core → (c : ℕ) (packet : Packet) → slice_get core.cells c ≡ Some (Full packet) → packet.number < pool core
cell_packet_in core kept c packet at = below_pool core kept.sound.stands packet.number (cell_counts core c packet at)

-- what isn't worn may be handed over
pub fresh_turn : (o : Option ℕ) → is_fresh o ≡ true → unwrap_or o 0 < highest_turn
fresh_turn None e = cc
fresh_turn (Some turn) e = ltb-true turn highest_turn e

pub fresh_held : (o : Option ℕ) → is_fresh o ≡ true → o ≡ Some (unwrap_or o 0)
fresh_held None e = cc
fresh_held (Some turn) e = refl

pub laid_fresh : (core : Core) → IsKept core → (i n : ℕ) (lane : LaneState) (seat : SeatState) → slice_get core.lanes i ≡ Some lane → 0 < laid_count n lane → slice_get core.seats lane.tx_seat ≡ Some seat → is_fresh (turn_of n seat) ≡ true
laid_fresh core kept i n lane seat at some there =
    let fresh = kept.unworn.laid i n lane at some in
    subst (λ o. is_fresh o ≡ true) (let e : turn_at core lane.tx_seat n ≡ turn_of n seat = rw there refl in e) fresh

-- the first of what is laid counts
pub first_laid : (lane : LaneState) (n : ℕ) (rest : List ℕ) → lane.laid ≡ n ∷ rest → 0 < laid_count n lane
first_laid lane n rest laid =
    let here : one_if (eqb n n) ≡ 1 = ap one_if (eq-eqb n n refl) in
    omega (arith, ap (λ ns. sum_of ns) laid, sum_by-cons (λ other. cond (eqb other n) 1 0) n rest, here) where
      sum_of : List ℕ → ℕ
      sum_of ns = sum_by (λ other. cond (eqb other n) 1 0) ns

giving : (pending : Option Transfer) → has_pending (λ transfer. has_given transfer.phase) pending ≡ true → IsGiving pending
giving None e = cc
giving (Some transfer) e = go transfer.phase e where
  go : (phase : Phase) → has_given phase ≡ true → Gives phase
  go (Taking out) e = cc
  go Giving e = tt
  go GivenIn e = tt

pub given_fresh : (core : Core) → IsKept core → (s : ℕ) (seat : SeatState) (claim : Claim) → slice_get core.seats s ≡ Some seat → claims_of seat ≡ claim ∷ [] → is_given_in seat ≡ true → is_fresh (turn_of claim.packet seat) ≡ true
given_fresh core kept s seat claim there one given =
    (given_at core kept s seat there).fresh claim.packet (giving seat.pending given) (omega (arith, claimed_packet seat claim one))
