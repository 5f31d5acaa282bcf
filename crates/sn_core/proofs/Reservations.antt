-- What is laid and what is claimed: how each change of a lane, a seat or a cell keeps those facts.
use Rattle.std.proofs.Common.{◌≡◌, ◌≢◌, ℕ, ◌+◌, ◌<◌, ◌≤◌, Bool, true, false, Option, List, [], ◌∷◌, Some, None, is_some, IsSome, IsTrue, refl, sym, ap, ◌∙◌, subst, arith, slice_get, slice_set, cond, eqb, inl, inr}
use Rattle.std.specs.Prelude.{option_and_then}
use Rattle.std.specs.List.{list_any, sum_by, count_by}
use Rattle.std.proofs.lemmas.Bool.{cases_eq, cases_lt, false≢true, or_parts, ne_eqb}
use Rattle.std.proofs.lemmas.Option.{same_Some, none-some}
use Rattle.std.proofs.lemmas.List.Sums.{sum_by-cons, sum_by-append}
use Rattle.sn_core.specs.declared.parts.Cell.{Cell}
use Rattle.sn_core.specs.Lane.{LaneState, laid_count, lays, with_laid}
use Rattle.sn_core.specs.Seat.{SeatState, turn_of, is_fresh, idle_seat, claims_of, claim_count, cell_count, has_claimed}
use Rattle.sn_core.specs.Core.{Core, with_lane, with_seat, with_cell}
use Rattle.sn_core.specs.Sound.{turn_at, laid_total, claim_total, cell_count_in, is_busy, StandsOnce, ClaimsAgree}
use Rattle.sn_core.proofs.Weights.{weigh_is, seat_weight, sum_by-written, at-le-sum_by}
use Rattle.sn_core.proofs.Counts.{is_one, counted_at_most_once, seat_weight-held, idle_weight}
use Rattle.sn_core.proofs.Writes.{get_same, get_other, get_written, two-le-sum_by, sum_zero, turn_at_same, turn_at_other}

-- what is laid isn't worn, and no packet is laid or claimed twice
pub record Reserved (core : Core) : Type 0 where
  pub fresh : (i n : ℕ) (lane : LaneState) → slice_get core.lanes i ≡ Some lane → 0 < laid_count n lane → IsTrue (is_fresh (turn_at core lane.tx_seat n))
  pub once : (n : ℕ) → laid_total core n + claim_total core n ≤ 1

pub fresh_some : (o : Option ℕ) → is_fresh o ≡ true → is_some o ≡ true
fresh_some None e = cc
fresh_some (Some turn) e = refl

pub turn_found : (core : Core) (s n : ℕ) → IsSome (turn_at core s n) → (P : Type 0) → ((seat : SeatState) (turn : ℕ) → slice_get core.seats s ≡ Some seat → turn_of n seat ≡ Some turn → P) → P
turn_found core s n is P next = go (slice_get core.seats s) refl is where
  some : (seat : SeatState) → slice_get core.seats s ≡ Some seat → (o : Option ℕ) → turn_of n seat ≡ o → is_some o ≡ true → P
  some seat at None e is = absurd (false≢true is)
  some seat at (Some turn) e is = next seat turn at e

  go : (o : Option SeatState) → slice_get core.seats s ≡ o → is_some (option_and_then (turn_of n) o) ≡ true → P
  go None at is = absurd (false≢true is)
  go (Some seat) at is = some seat at (turn_of n seat) refl is

-- a packet stands with one seat at most
pub held_by_one : (core : Core) → StandsOnce core → (a b n : ℕ) → IsSome (turn_at core a n) → IsSome (turn_at core b n) → a ≡ b
held_by_one core stands a b n at_a at_b =
    turn_found core a n at_a (a ≡ b) (λ seat turn there held.
    turn_found core b n at_b (a ≡ b) (λ other other_turn other_there other_held.
    elim (cases_eq b a) [
      | inl same ↦ sym same
      | inr differ ↦ absurd (omega (
        arith,
        two-le-sum_by (seat_weight (is_one n)) (idle_seat 0) core.seats a b seat other (nothing n) there other_there differ,
        seat_weight-held n turn seat held,
        seat_weight-held n other_turn other other_held,
        weigh_is (is_one n) core,
        counted_at_most_once core stands n,
      ))
    ])) where
      nothing : (n : ℕ) → seat_weight (is_one n) (idle_seat 0) ≡ 0
      nothing n = idle_weight n

-- the totals after a lane or a seat is written
pub laid_total-written : (core : Core) (i n : ℕ) (lane new : LaneState) → slice_get core.lanes i ≡ Some lane → laid_total (with_lane core i new) n + laid_count n lane ≡ laid_total core n + laid_count n new
laid_total-written core i n lane new at = sum_by-written (laid_count n) core.lanes i lane new at

pub claim_total-written : (core : Core) (s n : ℕ) (seat new : SeatState) → slice_get core.seats s ≡ Some seat → claim_total (with_seat core s new) n + claim_count n seat ≡ claim_total core n + claim_count n new
claim_total-written core s n seat new there = sum_by-written (claim_count n) core.seats s seat new there

pub laid_within : (core : Core) (i n : ℕ) (lane : LaneState) → slice_get core.lanes i ≡ Some lane → laid_count n lane ≤ laid_total core n
laid_within core i n lane at = at-le-sum_by (laid_count n) core.lanes i lane at

pub claim_within : (core : Core) (s n : ℕ) (seat : SeatState) → slice_get core.seats s ≡ Some seat → claim_count n seat ≤ claim_total core n
claim_within core s n seat there = at-le-sum_by (claim_count n) core.seats s seat there

-- 1 where the test holds
abbrev one_if : Bool → ℕ
one_if b = cond b 1 0

-- a test that finds nothing counts nothing
none_counted : {X : Type 0} (p : X → Bool) (xs : List X) → list_any p xs ≡ false → count_by p xs ≡ 0
none_counted p [] e = refl
none_counted p (x ∷ xs) e =
    let parts = or_parts (p x) (list_any p xs) e in
    let here : one_if (p x) ≡ 0 = ap one_if parts.0 in
    omega (arith, sum_by-cons (λ y. cond (p y) 1 0) x xs, here, none_counted p xs parts.1)

pub unlaid_total : (core : Core) (n : ℕ) → list_any (lays n) core.lanes ≡ false → laid_total core n ≡ 0
unlaid_total core n e = go core.lanes e where
  go : (lanes : List LaneState) → list_any (lays n) lanes ≡ false → sum_by (laid_count n) lanes ≡ 0
  go [] e = refl
  go (lane ∷ lanes) e =
      let parts = or_parts (lays n lane) (list_any (lays n) lanes) e in
      omega (arith, sum_by-cons (laid_count n) lane lanes, none_counted (λ other. eqb other n) lane.laid parts.0, go lanes parts.1)

pub unclaimed_count : (n : ℕ) (seat : SeatState) → has_claimed n seat ≡ false → claim_count n seat ≡ 0
unclaimed_count n seat e = none_counted (λ claim. eqb claim.packet n) (claims_of seat) e

-- a packet that a seat holds and hasn't claimed is claimed by none
pub unclaimed_total : (core : Core) (s n : ℕ) (seat : SeatState) → StandsOnce core →
    ((a : ℕ) (other : SeatState) → slice_get core.seats a ≡ Some other → 0 < claim_count n other → IsSome (turn_of n other)) →
    slice_get core.seats s ≡ Some seat → IsSome (turn_of n seat) → claim_count n seat ≡ 0 → claim_total core n ≡ 0
unclaimed_total core s n seat stands holds there held none =
    sum_zero (claim_count n) core.seats (λ a other at.
    elim (cases_lt 0 (claim_count n other)) [
      | inl some ↦ (let same : a ≡ s = held_by_one core stands a s n (rw at (holds a other at some)) (rw there held) in
          let again : slice_get core.seats s ≡ Some other = subst (λ x. slice_get core.seats x ≡ Some other) same at in
          let seat_is : seat ≡ other = same_Some seat other (sym there ∙ again) in
          subst (λ x. claim_count n x ≡ 0) seat_is none)
      | inr le ↦ omega (arith, le)
    ])

-- a packet that no seat holds is claimed by none
pub nobody_claims : (core : Core) (n : ℕ) →
    ((a : ℕ) (other : SeatState) → slice_get core.seats a ≡ Some other → 0 < claim_count n other → IsSome (turn_of n other)) →
    ((a : ℕ) (other : SeatState) → slice_get core.seats a ≡ Some other → turn_of n other ≡ None) → claim_total core n ≡ 0
nobody_claims core n holds nobody =
    sum_zero (claim_count n) core.seats (λ a other at.
    elim (cases_lt 0 (claim_count n other)) [
      | inl some ↦ absurd (false≢true (subst (λ o. is_some o ≡ true) (nobody a other at) (holds a other at some)))
      | inr le ↦ omega (arith, le)
    ])

-- nor is it laid
pub nobody_lays : (core : Core) (n : ℕ) → Reserved core →
    ((a : ℕ) (other : SeatState) → slice_get core.seats a ≡ Some other → turn_of n other ≡ None) → laid_total core n ≡ 0
nobody_lays core n reserved nobody =
    sum_zero (laid_count n) core.lanes (λ i lane at.
    elim (cases_lt 0 (laid_count n lane)) [
      | inl some ↦ turn_found core lane.tx_seat n (fresh_some (turn_at core lane.tx_seat n) (reserved.fresh i n lane at some)) (laid_count n lane ≡ 0)
          (λ seat turn there held. absurd (none-some turn (sym (nobody lane.tx_seat seat there) ∙ held)))
      | inr le ↦ omega (arith, le)
    ])

-- a lane changes, and has laid no more than before
pub reserved_lane : (core : Core) (i : ℕ) (lane new : LaneState) → slice_get core.lanes i ≡ Some lane → new.tx_seat ≡ lane.tx_seat → ((n : ℕ) → laid_count n new ≤ laid_count n lane) → Reserved core → Reserved (with_lane core i new)
reserved_lane core i lane new at same_seat fewer reserved =
    record {
      fresh = λ k n other there some.
          elim (get_written core.lanes i k lane new other at there) [
            | inl w ↦ (let here : 0 < laid_count n new = subst (λ l. 0 < laid_count n l) w.1 some in
                subst (λ l. IsTrue (is_fresh (turn_at core l.tx_seat n))) (sym w.1)
                (subst (λ t. IsTrue (is_fresh (turn_at core t n))) (sym same_seat) (reserved.fresh i n lane at (omega (arith, fewer n, here)))))
            | inr w ↦ reserved.fresh k n other w.1 some
          ];
      once = λ n. omega (arith, laid_total-written core i n lane new at, fewer n, reserved.once n);
    }

-- the transmitter lays a packet that isn't worn, and that nobody has laid or claimed
laid_count-more : (n m : ℕ) (lane : LaneState) → laid_count m (with_laid n lane) ≡ laid_count m lane + cond (eqb n m) 1 0
laid_count-more n m lane =
    omega (arith, sum_by-append (λ other. cond (eqb other m) 1 0) lane.laid (n ∷ []), sum_by-cons (λ other. cond (eqb other m) 1 0) n [])

one_at_most : (b : Bool) → cond b 1 0 ≤ 1
one_at_most true = omega arith
one_at_most false = omega arith

pub reserved_lay : (core : Core) (i n : ℕ) (lane : LaneState) → slice_get core.lanes i ≡ Some lane → IsTrue (is_fresh (turn_at core lane.tx_seat n)) → laid_total core n ≡ 0 → claim_total core n ≡ 0 → Reserved core → Reserved (with_lane core i (with_laid n lane))
reserved_lay core i n lane at fresh unlaid unclaimed reserved =
    record {
      fresh = λ k m other there some.
          elim (get_written core.lanes i k lane (with_laid n lane) other at there) [
            | inl w ↦ subst (λ l. IsTrue (is_fresh (turn_at core l.tx_seat m))) (sym w.1)
                (elim (cases_eq n m) [
                  | inl same ↦ subst (λ x. IsTrue (is_fresh (turn_at core lane.tx_seat x))) same fresh
                  | inr differ ↦ (let none : one_if (eqb n m) ≡ 0 = ap one_if (ne_eqb n m differ) in
                      let here : 0 < laid_count m (with_laid n lane) = subst (λ l. 0 < laid_count m l) w.1 some in
                      reserved.fresh i m lane at (omega (arith, laid_count-more n m lane, none, here)))
                ])
            | inr w ↦ reserved.fresh k m other w.1 some
          ];
      once = λ m.
          elim (cases_eq n m) [
            | inl same ↦ (let laid : laid_total core m ≡ 0 = subst (λ x. laid_total core x ≡ 0) same unlaid in
                let claimed : claim_total core m ≡ 0 = subst (λ x. claim_total core x ≡ 0) same unclaimed in
                omega (arith, laid_total-written core i m lane (with_laid n lane) at, laid_count-more n m lane, one_at_most (eqb n m), laid, claimed))
            | inr differ ↦ (let none : one_if (eqb n m) ≡ 0 = ap one_if (ne_eqb n m differ) in
                omega (arith, laid_total-written core i m lane (with_laid n lane) at, laid_count-more n m lane, none, reserved.once m))
          ];
    }

-- a seat changes: it holds what is laid as before, and claims nothing twice
pub reserved_seat : (core : Core) (s : ℕ) (seat new : SeatState) → slice_get core.seats s ≡ Some seat → ((n : ℕ) → 0 < laid_total core n → turn_of n new ≡ turn_of n seat) →
    ((n : ℕ) → laid_total core n + claim_total core n + claim_count n new ≤ 1 + claim_count n seat) → Reserved core → Reserved (with_seat core s new)
reserved_seat core s seat new there same claimed reserved =
    record {
      fresh = λ i n lane at some.
          subst (λ o. IsTrue (is_fresh o)) (sym (same_turn lane.tx_seat n (omega (arith, some, laid_within core i n lane at)))) (reserved.fresh i n lane at some);
      once = λ n. omega (arith, claim_total-written core s n seat new there, claimed n);
    } where
      same_turn : (a n : ℕ) → 0 < laid_total core n → turn_at (with_seat core s new) a n ≡ turn_at core a n
      same_turn a n some =
          elim (cases_eq a s) [
            | inl e ↦ (let old : turn_at core a n ≡ turn_of n seat = rw (e, there) refl in
                let now : turn_at (with_seat core s new) a n ≡ turn_of n new = ap (λ x. turn_at (with_seat core s new) x n) e ∙ turn_at_same core s n seat new there in
                now ∙ same n some ∙ sym old)
            | inr other ↦ turn_at_other core s a n new other
          ]

-- the cells don't matter to these facts
pub reserved_cell : (core : Core) (c : ℕ) (cell : Cell) → Reserved core → Reserved (with_cell core c cell)
reserved_cell core c cell reserved = record { fresh = reserved.fresh; once = reserved.once }

-- a seat changes, with the same cells claimed
pub agree_seat : (core : Core) (s : ℕ) (seat new : SeatState) → slice_get core.seats s ≡ Some seat → ((c : ℕ) → cell_count c new ≡ cell_count c seat) → ClaimsAgree core → ClaimsAgree (with_seat core s new)
agree_seat core s seat new there same agree c a =
    elim (cases_eq a s) [
      | inl e ↦ (let now : cell_count_in c (slice_get (slice_set core.seats s new) a) ≡ cell_count c new = rw (e, get_same core.seats s seat new there) refl in
          let old : cell_count_in c (slice_get core.seats a) ≡ cell_count c seat = rw (e, there) refl in
          now ∙ same c ∙ sym old ∙ agree c a)
      | inr differ ↦ ap (λ o. cell_count_in c o) (get_other core.seats s a new differ) ∙ agree c a
    ]

-- a seat and one cell change together
pub agree_cell : (core : Core) (s c : ℕ) (seat new : SeatState) (cell now : Cell) → slice_get core.seats s ≡ Some seat → slice_get core.cells c ≡ Some cell →
    ((d : ℕ) → d ≢ c → cell_count d new ≡ cell_count d seat) → cell_count c new ≡ cond (is_busy s (Some now)) 1 0 →
    ((a : ℕ) → a ≢ s → is_busy a (Some now) ≡ is_busy a (Some cell)) → ClaimsAgree core → ClaimsAgree (with_seat (with_cell core c now) s new)
agree_cell core s c seat new cell now there at others own others_seats agree d a =
    elim (cases_eq a s) [
      | inl e ↦ seat_now d a e ∙ elim (cases_eq d c) [
        | inl same ↦ ap (λ x. cell_count x new) same ∙ own ∙ sym (ap (λ x. cond (is_busy x (Some now)) 1 0) e) ∙ sym (ap (λ o. cond (is_busy a o) 1 0) (cell_now d same))
        | inr differ ↦ others d differ ∙ sym (seat_old d a e) ∙ agree d a ∙ sym (ap (λ o. cond (is_busy a o) 1 0) (get_other core.cells c d now differ))
      ]
      | inr other ↦ ap (λ o. cell_count_in d o) (get_other core.seats s a new other) ∙ agree d a ∙ elim (cases_eq d c) [
        | inl same ↦ ap (λ o. cond (is_busy a o) 1 0) (cell_old d same) ∙ ap (λ b. cond b 1 0) (sym (others_seats a other)) ∙ sym (ap (λ o. cond (is_busy a o) 1 0) (cell_now d same))
        | inr differ ↦ sym (ap (λ o. cond (is_busy a o) 1 0) (get_other core.cells c d now differ))
      ]
    ] where
      seat_now : (d a : ℕ) → a ≡ s → cell_count_in d (slice_get (slice_set core.seats s new) a) ≡ cell_count d new
      seat_now d a e = rw (e, get_same core.seats s seat new there) refl

      seat_old : (d a : ℕ) → a ≡ s → cell_count_in d (slice_get core.seats a) ≡ cell_count d seat
      seat_old d a e = rw (e, there) refl

      cell_now : (d : ℕ) → d ≡ c → slice_get (slice_set core.cells c now) d ≡ Some now
      cell_now d same = rw same (get_same core.cells c cell now at)

      cell_old : (d : ℕ) → d ≡ c → slice_get core.cells d ≡ Some cell
      cell_old d same = rw same at
