-- The one owner of a number: where it is found it stands once, it is found somewhere, and nowhere else.
use Rattle.std.proofs.Common.{◌≡◌, ℕ, ◌+◌, ◌<◌, ◌≤◌, Bool, true, false, Option, List, [], ◌∷◌, length, Some, None, is_some, refl, sym, ap, ◌∙◌, subst, arith, slice_get, get_or, suc, cond, eqb, ltb, ⊎_elim, inl, inr}
use Rattle.std.specs.Prelude.{position}
use Rattle.std.specs.List.{flat_map, list_any, sum_by, position_or_len}
use Rattle.std.proofs.lemmas.Bool.{cases_eq, cases_Bool, ne_eqb, eqb-true, ltb-false, false≢true, or_cases, or_parts}
use Rattle.std.proofs.lemmas.Option.{none-some, slice_get-get_or, slice_get_within, get_or_from_slice_get}
use Rattle.std.proofs.lemmas.List.Sums.{sum_by-cons, fails_before_first}
use Rattle.std.proofs.lemmas.List.Quantifiers.{position-Some}
use Rattle.sn_core.specs.declared.events.Owner.{Owner}
use Rattle.sn_core.specs.declared.parts.Packet.{Packet}
use Rattle.sn_core.specs.declared.parts.Cell.{Cell}
use Rattle.sn_core.specs.declared.parts.Cell.TheVariants.{Empty, Busy, Full}
use Rattle.sn_core.specs.Lane.{LaneState, free_lane}
use Rattle.sn_core.specs.Seat.{SeatState, packets_from, held_packets, joined, turn_of, idle_seat}
use Rattle.sn_core.specs.Core.{Core, pool, cell_packets, place_packets, queued_packets}
use Rattle.sn_core.specs.Ownership.{found_at, owned_packets, cell_has, place_has, lane_has, seat_has}
use Rattle.sn_core.specs.Sound.{StandsOnce, count_of}
use Rattle.sn_core.proofs.Weights.{weigh_is, cell_weight, lane_weight, seat_weight, cell_weight_of, lane_weight_of, seat_weight_of, cell_weight-full, cell_weight-empty, free_lane_weight, slot_weight_of, packets_from-cons, slot_weight, at-le-sum_by}
use Rattle.sn_core.proofs.Counts.{is_one, is_one-at, none_if, count_is, counted_at_most_once, seat_weight-held, idle_weight}
use Rattle.sn_core.proofs.Writes.{two-le-sum_by, sum_zero}

-- what `position` finds, and that it misses nothing
pub position_found : {X : Type 0} (p : X → Bool) (xs : List X) (i : ℕ) → position p xs ≡ Some i → (P : Type 0) → ((x : X) → slice_get xs i ≡ Some x → p x ≡ true → P) → P
position_found p [] i e P next = cc
position_found p (x ∷ xs) i e P next =
    let h = position-Some p (x ∷ xs) i x e in
    next (get_or (x ∷ xs) i x) (slice_get-get_or (x ∷ xs) i x h.0) h.1

pub position_missed : {X : Type 0} (p : X → Bool) (xs : List X) → position p xs ≡ None → (k : ℕ) (x : X) → slice_get xs k ≡ Some x → p x ≡ false
position_missed p xs e k x at =
    let past : ltb (position_or_len p xs) (length xs) ≡ false = cond_none (ltb (position_or_len p xs) (length xs)) (position_or_len p xs) e in
    let le : length xs ≤ position_or_len p xs = ltb-false (position_or_len p xs) (length xs) past in
    subst (λ y. p y ≡ false) (get_or_from_slice_get xs k x x at) (fails_before_first p xs k x (omega (arith, slice_get_within xs k x at))) where
      cond_none : (b : Bool) (n : ℕ) → cond b (Some n) None ≡ None → b ≡ false
      cond_none true n e = cc
      cond_none false n e = refl

-- the tests say whether the number counts
one_or_none : (n : ℕ) (packet : Packet) → eqb packet.number n ≡ false → is_one n packet ≡ 0
one_or_none n packet e = ap (λ b. cond b 1 0) e

cell_yes : (n : ℕ) (cell : Cell) → cell_has n cell ≡ true → 1 ≤ cell_weight (is_one n) cell
cell_yes n Empty e = cc
cell_yes n (Busy s) e = cc
cell_yes n (Full packet) e = omega (arith, cell_weight-full (is_one n) packet, is_one-at n packet (eqb-true packet.number n e))

cell_no : (n : ℕ) (cell : Cell) → cell_has n cell ≡ false → cell_weight (is_one n) cell ≡ 0
cell_no n Empty e = cell_weight_of (is_one n) Empty
cell_no n (Busy s) e = cell_weight_of (is_one n) (Busy s)
cell_no n (Full packet) e = omega (arith, cell_weight-full (is_one n) packet, one_or_none n packet e)

places_yes : (n : ℕ) (queue : List (Option Packet)) → list_any (place_has n) queue ≡ true → 1 ≤ sum_by (is_one n) (flat_map place_packets queue)
places_yes n [] e = cc
places_yes n (None ∷ places) e = places_yes n places e
places_yes n (Some packet ∷ places) e =
    elim (cases_Bool (eqb packet.number n)) [
      | inl here ↦ omega (arith, sum_by-cons (is_one n) packet (flat_map place_packets places), is_one-at n packet (eqb-true packet.number n here))
      | inr other ↦ (let rest : list_any (place_has n) places ≡ true = ⊎_elim (λ here. absurd (false≢true (sym other ∙ here))) (λ there. there) (or_cases (eqb packet.number n) (list_any (place_has n) places) e) in
          omega (arith, sum_by-cons (is_one n) packet (flat_map place_packets places), places_yes n places rest))
    ]

places_no : (n : ℕ) (queue : List (Option Packet)) → list_any (place_has n) queue ≡ false → sum_by (is_one n) (flat_map place_packets queue) ≡ 0
places_no n [] e = refl
places_no n (None ∷ places) e = places_no n places e
places_no n (Some packet ∷ places) e =
    let parts = or_parts (eqb packet.number n) (list_any (place_has n) places) e in
    omega (arith, sum_by-cons (is_one n) packet (flat_map place_packets places), one_or_none n packet parts.0, places_no n places parts.1)

lane_yes : (n : ℕ) (lane : LaneState) → lane_has n lane ≡ true → 1 ≤ lane_weight (is_one n) lane
lane_yes n lane e = omega (arith, lane_weight_of (is_one n) lane, places_yes n lane.queue e)

lane_no : (n : ℕ) (lane : LaneState) → lane_has n lane ≡ false → lane_weight (is_one n) lane ≡ 0
lane_no n lane e = omega (arith, lane_weight_of (is_one n) lane, places_no n lane.queue e)

slots_no : (n first : ℕ) (slots : List (Option ℕ)) → ((k : ℕ) → first + k ≡ n → joined (slice_get slots k) ≡ None) → sum_by (is_one n) (packets_from first slots) ≡ 0
slots_no n first [] none = refl
slots_no n first (slot ∷ slots) none =
    omega (
      arith,
      packets_from-cons (is_one n) first slot slots,
      slots_no n (suc first) slots (λ k e. none (suc k) (omega arith)),
      here slot (λ e. none 0 (omega arith)),
    ) where
      here : (o : Option ℕ) → (first ≡ n → o ≡ None) → slot_weight (is_one n) first o ≡ 0
      here None h = slot_weight_of (is_one n) first None
      here (Some turn) h =
          elim (cases_eq first n) [
            | inl same ↦ absurd (none-some turn (sym (h same)))
            | inr differ ↦ slot_weight_of (is_one n) first (Some turn) ∙ ap (λ b. cond b 1 0) (ne_eqb first n differ)
          ]

seat_yes : (n : ℕ) (seat : SeatState) → seat_has n seat ≡ true → 1 ≤ seat_weight (is_one n) seat
seat_yes n seat e = go (turn_of n seat) refl e where
  go : (o : Option ℕ) → turn_of n seat ≡ o → is_some o ≡ true → 1 ≤ seat_weight (is_one n) seat
  go None is e = cc
  go (Some turn) is e = seat_weight-held n turn seat is

seat_no : (n : ℕ) (seat : SeatState) → seat_has n seat ≡ false → seat_weight (is_one n) seat ≡ 0
seat_no n seat e =
    seat_weight_of (is_one n) seat ∙ slots_no n 0 seat.held (λ k same. subst (λ x. joined (slice_get seat.held x) ≡ None) (let k_is : n ≡ k = omega arith in k_is) (go (turn_of n seat) e)) where
      go : (o : Option ℕ) → is_some o ≡ false → o ≡ None
      go None e = refl
      go (Some turn) e = cc

-- a number of the pool weighs 1 in all
total_one : (core : Core) → StandsOnce core → (n : ℕ) → n < pool core → sum_by (cell_weight (is_one n)) core.cells + (sum_by (lane_weight (is_one n)) core.lanes + sum_by (seat_weight (is_one n)) core.seats) ≡ 1
total_one core stands n lt = sym (weigh_is (is_one n) core) ∙ sym (count_is core n) ∙ stands.within n lt

-- where it was found it stands once
pub once_in_cell : (core : Core) → StandsOnce core → (n c : ℕ) → position (cell_has n) core.cells ≡ Some c → count_of n (owned_packets core (Owner.Cell c)) ≡ 1
once_in_cell core stands n c e =
    position_found (cell_has n) core.cells c e (count_of n (owned_packets core (Owner.Cell c)) ≡ 1) (λ cell at has.
    let most : cell_weight (is_one n) cell ≤ sum_by (cell_weight (is_one n)) core.cells = at-le-sum_by (cell_weight (is_one n)) core.cells c cell at in
    let one : cell_weight (is_one n) cell ≡ 1 = omega (arith, cell_yes n cell has, most, weigh_is (is_one n) core, counted_at_most_once core stands n) in
    subst (λ o. count_of n (found_at cell_packets o) ≡ 1) (sym at) (sym (cell_weight_of (is_one n) cell) ∙ one))

pub once_in_lane : (core : Core) → StandsOnce core → (n i : ℕ) → position (lane_has n) core.lanes ≡ Some i → count_of n (owned_packets core (Owner.Lane i)) ≡ 1
once_in_lane core stands n i e =
    position_found (lane_has n) core.lanes i e (count_of n (owned_packets core (Owner.Lane i)) ≡ 1) (λ lane at has.
    let most : lane_weight (is_one n) lane ≤ sum_by (lane_weight (is_one n)) core.lanes = at-le-sum_by (lane_weight (is_one n)) core.lanes i lane at in
    let one : lane_weight (is_one n) lane ≡ 1 = omega (arith, lane_yes n lane has, most, weigh_is (is_one n) core, counted_at_most_once core stands n) in
    subst (λ o. count_of n (found_at queued_packets o) ≡ 1) (sym at) (sym (lane_weight_of (is_one n) lane) ∙ one))

pub once_in_seat : (core : Core) → StandsOnce core → (n s : ℕ) → position (seat_has n) core.seats ≡ Some s → count_of n (owned_packets core (Owner.Seat s)) ≡ 1
once_in_seat core stands n s e =
    position_found (seat_has n) core.seats s e (count_of n (owned_packets core (Owner.Seat s)) ≡ 1) (λ seat at has.
    let most : seat_weight (is_one n) seat ≤ sum_by (seat_weight (is_one n)) core.seats = at-le-sum_by (seat_weight (is_one n)) core.seats s seat at in
    let one : seat_weight (is_one n) seat ≡ 1 = omega (arith, seat_yes n seat has, most, weigh_is (is_one n) core, counted_at_most_once core stands n) in
    subst (λ o. count_of n (found_at held_packets o) ≡ 1) (sym at) (sym (seat_weight_of (is_one n) seat) ∙ one))

-- it is found somewhere
pub somewhere : (core : Core) → StandsOnce core → (n : ℕ) → n < pool core → ((s : ℕ) → position (seat_has n) core.seats ≡ Some s → ⊥) → ((c : ℕ) → position (cell_has n) core.cells ≡ Some c → ⊥) → position (lane_has n) core.lanes ≡ None → ⊥
somewhere core stands n lt no_seat no_cell no_lane =
    omega (
      arith,
      total_one core stands n lt,
      sum_zero (seat_weight (is_one n)) core.seats (λ k seat at. seat_no n seat (position_missed (seat_has n) core.seats (none_if (position (seat_has n) core.seats) no_seat) k seat at)),
      sum_zero (cell_weight (is_one n)) core.cells (λ k cell at. cell_no n cell (position_missed (cell_has n) core.cells (none_if (position (cell_has n) core.cells) no_cell) k cell at)),
      sum_zero (lane_weight (is_one n)) core.lanes (λ k lane at. lane_no n lane (position_missed (lane_has n) core.lanes no_lane k lane at)),
    )

-- and nowhere else
found_cases : {X : Type 0} (packets : X → List Packet) (xs : List X) (i n : ℕ) → 0 < count_of n (found_at packets (slice_get xs i)) → (P : Type 0) → ((x : X) → slice_get xs i ≡ Some x → 0 < count_of n (packets x) → P) → P
found_cases {X} packets xs i n some P next = go (slice_get xs i) refl some where
  go : (o : Option X) → slice_get xs i ≡ o → 0 < count_of n (found_at packets o) → P
  go None is e = absurd (omega (arith, e))
  go (Some x) is e = next x is e

-- two elements of one list where both count
two_found : {X : Type 0} (packets : X → List Packet) (weight : X → ℕ) (light : X) (xs : List X) (n i j : ℕ) → ((x : X) → weight x ≡ count_of n (packets x)) → weight light ≡ 0 → sum_by weight xs ≤ 1 →
    0 < count_of n (found_at packets (slice_get xs i)) → 0 < count_of n (found_at packets (slice_get xs j)) → i ≡ j
two_found packets weight light xs n i j is nothing most at_i at_j =
    found_cases packets xs i n at_i (i ≡ j) (λ x at some.
    found_cases packets xs j n at_j (i ≡ j) (λ y there other.
    elim (cases_eq j i) [
      | inl same ↦ sym same
      | inr differ ↦ absurd (omega (arith, two-le-sum_by weight light xs i j x y nothing at there differ, is x, is y, some, other, most))
    ]))

-- one element of a list where it counts
one_found : {X : Type 0} (packets : X → List Packet) (weight : X → ℕ) (xs : List X) (n i : ℕ) → ((x : X) → weight x ≡ count_of n (packets x)) → 0 < count_of n (found_at packets (slice_get xs i)) → 0 < sum_by weight xs
one_found packets weight xs n i is at_i =
    found_cases packets xs i n at_i (0 < sum_by weight xs) (λ x at some. omega (arith, at-le-sum_by weight xs i x at, is x, some))

pub one_owner : (core : Core) → StandsOnce core → (n : ℕ) (a b : Owner) → 0 < count_of n (owned_packets core a) → 0 < count_of n (owned_packets core b) → a ≡ b
one_owner core stands n a b at_a at_b = go a b at_a at_b where
  most : sum_by (cell_weight (is_one n)) core.cells + (sum_by (lane_weight (is_one n)) core.lanes + sum_by (seat_weight (is_one n)) core.seats) ≤ 1
  most = omega (arith, weigh_is (is_one n) core, counted_at_most_once core stands n)

  cell : (c : ℕ) → 0 < count_of n (owned_packets core (Owner.Cell c)) → 0 < sum_by (cell_weight (is_one n)) core.cells
  cell c e = one_found cell_packets (cell_weight (is_one n)) core.cells n c (λ x. cell_weight_of (is_one n) x) e

  lane : (i : ℕ) → 0 < count_of n (owned_packets core (Owner.Lane i)) → 0 < sum_by (lane_weight (is_one n)) core.lanes
  lane i e = one_found queued_packets (lane_weight (is_one n)) core.lanes n i (λ x. lane_weight_of (is_one n) x) e

  seat : (s : ℕ) → 0 < count_of n (owned_packets core (Owner.Seat s)) → 0 < sum_by (seat_weight (is_one n)) core.seats
  seat s e = one_found held_packets (seat_weight (is_one n)) core.seats n s (λ x. seat_weight_of (is_one n) x) e

  go : (x y : Owner) → 0 < count_of n (owned_packets core x) → 0 < count_of n (owned_packets core y) → x ≡ y
  go (Owner.Cell c) (Owner.Cell d) e f = ap (λ k. Owner.Cell k) (two_found cell_packets (cell_weight (is_one n)) Empty core.cells n c d (λ x. cell_weight_of (is_one n) x) (cell_weight-empty (is_one n)) (omega (arith, most)) e f)
  go (Owner.Cell c) (Owner.Lane i) e f = absurd (omega (arith, most, cell c e, lane i f))
  go (Owner.Cell c) (Owner.Seat s) e f = absurd (omega (arith, most, cell c e, seat s f))
  go (Owner.Lane i) (Owner.Cell c) e f = absurd (omega (arith, most, lane i e, cell c f))
  go (Owner.Lane i) (Owner.Lane k) e f = ap (λ x. Owner.Lane x) (two_found queued_packets (lane_weight (is_one n)) (free_lane 0 0) core.lanes n i k (λ x. lane_weight_of (is_one n) x) (free_lane_weight (is_one n) 0 0) (omega (arith, most)) e f)
  go (Owner.Lane i) (Owner.Seat s) e f = absurd (omega (arith, most, lane i e, seat s f))
  go (Owner.Seat s) (Owner.Cell c) e f = absurd (omega (arith, most, seat s e, cell c f))
  go (Owner.Seat s) (Owner.Lane i) e f = absurd (omega (arith, most, seat s e, lane i f))
  go (Owner.Seat s) (Owner.Seat k) e f = ap (λ x. Owner.Seat x) (two_found held_packets (seat_weight (is_one n)) (idle_seat 0) core.seats n s k (λ x. seat_weight_of (is_one n) x) (idle_weight n) (omega (arith, most)) e f)
