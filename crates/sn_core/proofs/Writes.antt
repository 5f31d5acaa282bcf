-- What stands in a list after a write, and what lanes and seats of the core are after one.
use Rattle.std.proofs.Common.{◌≡◌, ◌≢◌, ℕ, ◌+◌, ◌≤◌, Option, List, [], ◌∷◌, Some, None, refl, sym, ap, ◌∙◌, subst, arith, slice_get, slice_set, zero, suc, ◌⊎◌, inl, inr}
use Rattle.std.specs.List.{sum_by}
use Rattle.std.proofs.lemmas.List.Sums.{sum_by-cons}
use Rattle.std.proofs.lemmas.Bool.{cases_eq}
use Rattle.sn_core.specs.declared.parts.Packet.{Packet}
use Rattle.sn_core.specs.Seat.{SeatState, turn_of, with_packet, without_packet, joined}
use Rattle.sn_core.specs.Core.{Core, with_seat}
use Rattle.sn_core.specs.Sound.{turn_at}
use Rattle.sn_core.proofs.Weights.{sum_by-written, at-le-sum_by}

pub get_same : {X : Type 0} (xs : List X) (i : ℕ) (x y : X) → slice_get xs i ≡ Some x → slice_get (slice_set xs i y) i ≡ Some y
get_same [] i x y at = cc
get_same (z ∷ xs) zero x y at = refl
get_same (z ∷ xs) (suc i) x y at = get_same xs i x y at

pub get_other : {X : Type 0} (xs : List X) (i k : ℕ) (y : X) → k ≢ i → slice_get (slice_set xs i y) k ≡ slice_get xs k
get_other [] i k y differ = refl
get_other (z ∷ xs) zero zero y differ = absurd (differ refl)
get_other (z ∷ xs) zero (suc k) y differ = refl
get_other (z ∷ xs) (suc i) zero y differ = refl
get_other (z ∷ xs) (suc i) (suc k) y differ = get_other xs i k y (λ e. differ (ap suc e))

-- what stands at k after a write at i
pub get_written : {X : Type 0} (xs : List X) (i k : ℕ) (x y z : X) → slice_get xs i ≡ Some x → slice_get (slice_set xs i y) k ≡ Some z → ((k ≡ i) × (z ≡ y)) ⊎ ((k ≢ i) × (slice_get xs k ≡ Some z))
get_written xs i k x y z at after =
    elim (cases_eq k i) [
      | inl same ↦ inl (same, (let e : slice_get (slice_set xs i y) i ≡ Some z = subst (λ j. slice_get (slice_set xs i y) j ≡ Some z) same after in let f = get_same xs i x y at in cc))
      | inr differ ↦ inr (differ, sym (get_other xs i k y differ) ∙ after)
    ]

-- two elements together weigh no more than all; `light` weighs nothing
pub two-le-sum_by : {X : Type 0} (f : X → ℕ) (light : X) (xs : List X) (i j : ℕ) (x y : X) → f light ≡ 0 → slice_get xs i ≡ Some x → slice_get xs j ≡ Some y → j ≢ i → f x + f y ≤ sum_by f xs
two-le-sum_by f light xs i j x y nothing at there differ =
    omega (arith, sum_by-written f xs i x light at, at-le-sum_by f (slice_set xs i light) j y (get_other xs i j light differ ∙ there))

-- where each element weighs nothing, all of them don't
pub sum_zero : {X : Type 0} (f : X → ℕ) (xs : List X) → ((k : ℕ) (x : X) → slice_get xs k ≡ Some x → f x ≡ 0) → sum_by f xs ≡ 0
sum_zero f [] each = refl
sum_zero f (x ∷ xs) each = omega (arith, sum_by-cons f x xs, each 0 x refl, sum_zero f xs (λ k y at. each (suc k) y at))

-- what stood there is written again
pub write_same : {X : Type 0} (xs : List X) (i : ℕ) (x : X) → slice_get xs i ≡ Some x → slice_set xs i x ≡ xs
write_same [] i x at = cc
write_same (z ∷ xs) zero x at = ap (λ y. y ∷ xs) (let e : x ≡ z = cc in e)
write_same (z ∷ xs) (suc i) x at = ap (λ ys. z ∷ ys) (write_same xs i x at)

-- of two writes at one place the last one stays
pub write_twice : {X : Type 0} (xs : List X) (i : ℕ) (x y : X) → slice_set (slice_set xs i x) i y ≡ slice_set xs i y
write_twice [] i x y = refl
write_twice (z ∷ xs) zero x y = refl
write_twice (z ∷ xs) (suc i) x y = ap (λ ys. z ∷ ys) (write_twice xs i x y)

-- seats of the core after a write
pub turn_at_same : (core : Core) (s n : ℕ) (seat new : SeatState) → slice_get core.seats s ≡ Some seat → turn_at (with_seat core s new) s n ≡ turn_of n new
turn_at_same core s n seat new at = rw (get_same core.seats s seat new at) refl

pub turn_at_other : (core : Core) (s a n : ℕ) (new : SeatState) → a ≢ s → turn_at (with_seat core s new) a n ≡ turn_at core a n
turn_at_other core s a n new differ = rw (get_other core.seats s a new differ) refl

-- the turns of a seat after a packet came or left
pub turn_of-with_packet : (seat : SeatState) (packet : Packet) (n : ℕ) → n ≢ packet.number → turn_of n (with_packet packet seat) ≡ turn_of n seat
turn_of-with_packet seat packet n differ = ap joined (get_other seat.held packet.number n (Some packet.turn) differ)

pub turn_of-without_packet : (seat : SeatState) (m n : ℕ) → n ≢ m → turn_of n (without_packet m seat) ≡ turn_of n seat
turn_of-without_packet seat m n differ = ap joined (get_other seat.held m n None differ)

pub turn_of-held : (seat : SeatState) (packet : Packet) (slot : Option ℕ) → slice_get seat.held packet.number ≡ Some slot → turn_of packet.number (with_packet packet seat) ≡ Some packet.turn
turn_of-held seat packet slot at = ap joined (get_same seat.held packet.number slot (Some packet.turn) at)
