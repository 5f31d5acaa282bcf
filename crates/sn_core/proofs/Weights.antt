-- The packets that stand in the core, weighed: the weight of all is that of the cells, the lanes and the seats.
use Rattle.std.proofs.Common.{◌≡◌, ℕ, ◌+◌, ◌<◌, ◌≤◌, Option, List, [], ◌∷◌, ◌++◌, length, Some, None, refl, sym, ap, subst, arith, slice_get, slice_set, map, zero, suc, add-zero, zero-add, drop, get_or, replicate}
use Rattle.std.specs.List.{flat_map, sum_by, All}
use Rattle.std.proofs.lemmas.List.Sums.{sum_by-cons, sum_by-append, sum_by-set, get_or-le-sum_by}
use Rattle.std.proofs.lemmas.Option.{slice_get_within, get_or_from_slice_get, slice_get-get_or}
use Rattle.std.proofs.lemmas.List.Concat.{flat_map-append}
use Rattle.sn_core.specs.declared.parts.Packet.{Packet}
use Rattle.sn_core.specs.declared.parts.Cell.{Cell}
use Rattle.sn_core.specs.declared.parts.Cell.TheVariants.{Empty, Busy, Full}
use Rattle.sn_core.specs.Lane.{LaneState, first_filled, next_emptied, unreleased, taken, published, released, free_lane}
use Rattle.sn_core.specs.Seat.{SeatState, packets_from, held_packets, turn_of, joined, with_packet, without_packet, idle_seat}
use Rattle.sn_core.specs.Core.{Core, standing, cell_packets, place_packets, queued_packets, with_lane, with_seat, with_cell}

pub sum_by-flat_map : {X Y : Type 0} (f : Y → ℕ) (g : X → List Y) (xs : List X) → sum_by f (flat_map g xs) ≡ sum_by (λ x. sum_by f (g x)) xs
sum_by-flat_map f g [] = refl
sum_by-flat_map f g (x ∷ xs) =
    omega (arith, sum_by-append f (g x) (flat_map g xs), sum_by-cons (λ y. sum_by f (g y)) x xs, sum_by-flat_map f g xs)

-- an element of a list holds what all of them hold
pub All_at : {X : Type 0} (P : X → Type 0) (xs : List X) (i : ℕ) (x : X) → All P xs → slice_get xs i ≡ Some x → P x
All_at P xs i x all at = subst P (get_or_from_slice_get xs i x x at) (all i x (slice_get_within xs i x at))

-- the weight of each part
pub cell_weight : (Packet → ℕ) → Cell → ℕ
cell_weight f cell = sum_by f (cell_packets cell)

pub lane_weight : (Packet → ℕ) → LaneState → ℕ
lane_weight f lane = sum_by f (queued_packets lane)

pub seat_weight : (Packet → ℕ) → SeatState → ℕ
seat_weight f seat = sum_by f (held_packets seat)

pub weigh : (Packet → ℕ) → Core → ℕ
weigh f core = sum_by f (standing core)

pub weigh_of : (f : Packet → ℕ) (core : Core) → weigh f core ≡ sum_by f (standing core)
unfolding weigh
weigh_of f core = refl

pub weigh_is : (f : Packet → ℕ) (core : Core) → weigh f core ≡ sum_by (cell_weight f) core.cells + (sum_by (lane_weight f) core.lanes + sum_by (seat_weight f) core.seats)
unfolding weigh cell_weight lane_weight seat_weight
weigh_is f core =
    omega (
      arith,
      sum_by-append f (flat_map cell_packets core.cells) (flat_map queued_packets core.lanes ++ flat_map held_packets core.seats),
      sum_by-append f (flat_map queued_packets core.lanes) (flat_map held_packets core.seats),
      sum_by-flat_map f cell_packets core.cells,
      sum_by-flat_map f queued_packets core.lanes,
      sum_by-flat_map f held_packets core.seats,
    )

-- one part is written
pub sum_by-written : {X : Type 0} (f : X → ℕ) (xs : List X) (i : ℕ) (x y : X) → slice_get xs i ≡ Some x → sum_by f (slice_set xs i y) + f x ≡ sum_by f xs + f y
sum_by-written f xs i x y at =
    subst (λ z. sum_by f (slice_set xs i y) + f z ≡ sum_by f xs + f y) (get_or_from_slice_get xs i x x at) (sum_by-set f xs i y x (slice_get_within xs i x at))

-- no part weighs more than all
pub at-le-sum_by : {X : Type 0} (f : X → ℕ) (xs : List X) (i : ℕ) (x : X) → slice_get xs i ≡ Some x → f x ≤ sum_by f xs
at-le-sum_by f xs i x at = subst (λ z. f z ≤ sum_by f xs) (get_or_from_slice_get xs i x x at) (get_or-le-sum_by f xs i x (slice_get_within xs i x at))

-- one slot of a seat's table
pub slot_weight : (Packet → ℕ) → ℕ → Option ℕ → ℕ
slot_weight f number None = 0
slot_weight f number (Some turn) = f (record { number = number; turn = turn })

pub packets_from-cons : (f : Packet → ℕ) (number : ℕ) (slot : Option ℕ) (slots : List (Option ℕ)) → sum_by f (packets_from number (slot ∷ slots)) ≡ slot_weight f number slot + sum_by f (packets_from (suc number) slots)
unfolding slot_weight
packets_from-cons f number None slots = omega arith
packets_from-cons f number (Some turn) slots = sum_by-cons f (record { number = number; turn = turn }) (packets_from (suc number) slots)

pub packets_from-written : (f : Packet → ℕ) (number : ℕ) (slots : List (Option ℕ)) (k : ℕ) (slot new : Option ℕ) → slice_get slots k ≡ Some slot → sum_by f (packets_from number (slice_set slots k new)) + slot_weight f (number + k) slot ≡ sum_by f (packets_from number slots) + slot_weight f (number + k) new
packets_from-written f number [] k slot new at = cc
packets_from-written f number (x ∷ slots) zero slot new at =
    let e : x ≡ slot = cc in
    subst (λ z. sum_by f (packets_from number (new ∷ slots)) + slot_weight f (number + 0) z ≡ sum_by f (packets_from number (x ∷ slots)) + slot_weight f (number + 0) new) e
    (rw add-zero (omega (arith, packets_from-cons f number new slots, packets_from-cons f number x slots)))
packets_from-written f number (x ∷ slots) (suc k) slot new at =
    let e : number + suc k ≡ suc number + k = omega arith in
    rw e (omega (arith, packets_from-cons f number x (slice_set slots k new), packets_from-cons f number x slots, packets_from-written f (suc number) slots k slot new at))

-- a lane: the first packet leaves, packets join, emptied places go
pub lane_weight-taken : (f : Packet → ℕ) (lane : LaneState) (packet : Packet) → first_filled lane.queue ≡ Some packet → lane_weight f lane ≡ f packet + lane_weight f (taken lane)
unfolding lane_weight
lane_weight-taken f lane packet first = go lane.queue first where
  go : (queue : List (Option Packet)) → first_filled queue ≡ Some packet → sum_by f (flat_map place_packets queue) ≡ f packet + sum_by f (flat_map place_packets (next_emptied queue))
  go [] first = cc
  go (None ∷ queue) first = go queue first
  go (Some other ∷ queue) first =
      let e : other ≡ packet = cc in
      subst (λ p. sum_by f (p ∷ flat_map place_packets queue) ≡ f packet + sum_by f (flat_map place_packets queue)) (sym e)
      (sum_by-cons f packet (flat_map place_packets queue))

pub lane_weight-published : (f : Packet → ℕ) (lane : LaneState) (packets : List Packet) → lane_weight f (published packets lane) ≡ lane_weight f lane + sum_by f packets
unfolding lane_weight
lane_weight-published f lane packets =
    rw (flat_map-append place_packets lane.queue (map Some packets), all_filled packets, sum_by-append f (flat_map place_packets lane.queue) packets) refl where
      all_filled : (ps : List Packet) → flat_map place_packets (map Some ps) ≡ ps
      all_filled [] = refl
      all_filled (p ∷ ps) = ap (λ qs. p ∷ qs) (all_filled ps)

pub lane_weight-released : (f : Packet → ℕ) (lane : LaneState) → lane_weight f (released lane) ≡ lane_weight f lane
unfolding lane_weight
lane_weight-released f lane = go lane.queue where
  go : (queue : List (Option Packet)) → sum_by f (flat_map place_packets (drop (unreleased queue) queue)) ≡ sum_by f (flat_map place_packets queue)
  go [] = refl
  go (None ∷ queue) = go queue
  go (Some other ∷ queue) = refl

-- a seat: a packet comes, a packet leaves
pub slot_from_turn : (seat : SeatState) (number turn : ℕ) → turn_of number seat ≡ Some turn → slice_get seat.held number ≡ Some (Some turn)
slot_from_turn seat number turn e = go (slice_get seat.held number) e where
  go : (o : Option (Option ℕ)) → joined o ≡ Some turn → o ≡ Some (Some turn)
  go None e = cc
  go (Some slot) e = ap Some e

pub empty_slot : (seat : SeatState) (number : ℕ) → number < length seat.held → turn_of number seat ≡ None → slice_get seat.held number ≡ Some None
empty_slot seat number lt e = go (slice_get seat.held number) (slice_get-get_or seat.held number None lt) e where
  go : (o : Option (Option ℕ)) → o ≡ Some (get_or seat.held number None) → joined o ≡ None → o ≡ Some None
  go None is e = cc
  go (Some slot) is e = ap Some e

pub seat_weight-with_packet : (f : Packet → ℕ) (seat : SeatState) (packet : Packet) → packet.number < length seat.held → turn_of packet.number seat ≡ None → seat_weight f (with_packet packet seat) ≡ seat_weight f seat + f packet
unfolding seat_weight slot_weight
seat_weight-with_packet f seat packet lt none =
    omega (arith, simp zero-add at (packets_from-written f 0 seat.held packet.number None (Some packet.turn) (empty_slot seat packet.number lt none)))

pub seat_weight-without_packet : (f : Packet → ℕ) (seat : SeatState) (number turn : ℕ) → turn_of number seat ≡ Some turn → seat_weight f (without_packet number seat) + f (record { number = number; turn = turn }) ≡ seat_weight f seat
unfolding seat_weight slot_weight
seat_weight-without_packet f seat number turn held =
    omega (arith, simp zero-add at (packets_from-written f 0 seat.held number (Some turn) None (slot_from_turn seat number turn held)))

-- the core with another lane, seat or cell
pub weigh-with_lane : (f : Packet → ℕ) (core : Core) (i : ℕ) (lane new : LaneState) → slice_get core.lanes i ≡ Some lane → weigh f (with_lane core i new) + lane_weight f lane ≡ weigh f core + lane_weight f new
weigh-with_lane f core i lane new at =
    omega (arith, weigh_is f core, weigh_is f (with_lane core i new), sum_by-written (lane_weight f) core.lanes i lane new at)

pub weigh-with_seat : (f : Packet → ℕ) (core : Core) (s : ℕ) (seat new : SeatState) → slice_get core.seats s ≡ Some seat → weigh f (with_seat core s new) + seat_weight f seat ≡ weigh f core + seat_weight f new
weigh-with_seat f core s seat new at =
    omega (arith, weigh_is f core, weigh_is f (with_seat core s new), sum_by-written (seat_weight f) core.seats s seat new at)

pub weigh-with_cell : (f : Packet → ℕ) (core : Core) (c : ℕ) (cell new : Cell) → slice_get core.cells c ≡ Some cell → weigh f (with_cell core c new) + cell_weight f cell ≡ weigh f core + cell_weight f new
weigh-with_cell f core c cell new at =
    omega (arith, weigh_is f core, weigh_is f (with_cell core c new), sum_by-written (cell_weight f) core.cells c cell new at)

-- cells, computed
pub cell_weight-full : (f : Packet → ℕ) (packet : Packet) → cell_weight f (Full packet) ≡ f packet
unfolding cell_weight
cell_weight-full f packet = omega arith

pub cell_weight-empty : (f : Packet → ℕ) → cell_weight f Empty ≡ 0
unfolding cell_weight
cell_weight-empty f = refl

pub cell_weight-busy : (f : Packet → ℕ) (s : ℕ) → cell_weight f (Busy s) ≡ 0
unfolding cell_weight
cell_weight-busy f s = refl

pub idle_seat_weight : (f : Packet → ℕ) → seat_weight f (idle_seat 0) ≡ 0
unfolding seat_weight
idle_seat_weight f = refl

pub same_lane_weight : (f : Packet → ℕ) (lane new : LaneState) → new.queue ≡ lane.queue → lane_weight f new ≡ lane_weight f lane
unfolding lane_weight
same_lane_weight f lane new same = ap (λ queue. sum_by f (flat_map place_packets queue)) same

pub same_seat_weight : (f : Packet → ℕ) (seat new : SeatState) → new.held ≡ seat.held → seat_weight f new ≡ seat_weight f seat
unfolding seat_weight
same_seat_weight f seat new same = ap (λ held. sum_by f (packets_from 0 held)) same

pub free_lane_weight : (f : Packet → ℕ) (a b : ℕ) → lane_weight f (free_lane a b) ≡ 0
unfolding lane_weight
free_lane_weight f a b = refl

pub idle_pool_weight : (f : Packet → ℕ) (pool : ℕ) → seat_weight f (idle_seat pool) ≡ 0
unfolding seat_weight
idle_pool_weight f pool = go 0 pool where
  go : (first count : ℕ) → sum_by f (packets_from first (replicate count None)) ≡ 0
  go first zero = refl
  go first (suc count) = go (suc first) count

-- the weights, opened
pub cell_weight_of : (f : Packet → ℕ) (cell : Cell) → cell_weight f cell ≡ sum_by f (cell_packets cell)
unfolding cell_weight
cell_weight_of f cell = refl

pub lane_weight_of : (f : Packet → ℕ) (lane : LaneState) → lane_weight f lane ≡ sum_by f (flat_map place_packets lane.queue)
unfolding lane_weight
lane_weight_of f lane = refl

pub seat_weight_of : (f : Packet → ℕ) (seat : SeatState) → seat_weight f seat ≡ sum_by f (packets_from 0 seat.held)
unfolding seat_weight
seat_weight_of f seat = refl

-- what a slot weighs
abbrev pub slot_value : (Packet → ℕ) → ℕ → Option ℕ → ℕ
slot_value f number None = 0
slot_value f number (Some turn) = f (record { number = number; turn = turn })

pub slot_weight_of : (f : Packet → ℕ) (number : ℕ) (slot : Option ℕ) → slot_weight f number slot ≡ slot_value f number slot
unfolding slot_weight
slot_weight_of f number None = refl
slot_weight_of f number (Some turn) = refl
