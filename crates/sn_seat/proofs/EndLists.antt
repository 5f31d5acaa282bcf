-- The ends of a seat, with one of them written.
use Rattle.std.proofs.Common.{◌≡◌, ℕ, zero, suc, ◌+◌, ◌<◌, ◌≤◌, ◌==◌, ◌&&◌, ◌||◌, not, nat_lt, Bool, true, false, cond, List}
use Rattle.std.proofs.Common.{[], ◌∷◌, ◌++◌, get_or, set, Some, None, refl, sym, ap, ap₂, ◌∙◌, inl, inr, arith, append-nil}
use Rattle.std.proofs.Common.{append_assoc, length, slice_get}
use Rattle.std.proofs.lemmas.Bool.{and_parts, and_from, eq-eqb, eqb-true, lt-ltb}
use Rattle.std.proofs.lemmas.Bool.Decides.{eqb_tells}
use Rattle.std.proofs.lemmas.Option.{get_or_from_slice_get, slice_get-get_or}
use Rattle.std.proofs.Math.Seq.{map-set_same}
use Rattle.std.proofs.lemmas.List.Quantifiers.{position-Some}
use Rattle.std.specs.List.{list_any, position, position_or_len}
use Rattle.sn_core.specs.declared.events.Side.{Side}
use Rattle.sn_core.specs.declared.events.Side.TheVariants.{Tx, Rx}
use Rattle.sn_interlink.specs.Ends.{LaneId, reach_of}
use Rattle.sn_interlink.specs.declared.entry.LaneEntry.{LaneEntry}
use Rattle.sn_app.specs.Desk.{same_side, set_end}
use Rattle.sn_seat.specs.LaneSteps.{Links}
use Rattle.sn_seat.specs.Places.{IsEndAt}
use Rattle.sn_seat.specs.SeatEnds.{Numbered, desk_end, end_in, ends_in, is_at, reach_in, side_in, times_at, wire_is_at}
use Rattle.sn_seat.specs.SeatEnds.{wire_of, wires}
use Rattle.sn_seat.specs.Told.{if_lane, log_at, told_log}
use Rattle.sn_seat.specs.declared.seat_end.SeatEnd.{SeatEnd}

-- SIDES AND NUMBERS

pub side_itself : (side : Side) → same_side side side ≡ true
side_itself Tx = refl
side_itself Rx = refl

side_turned : (a b : Side) → same_side a b ≡ same_side b a
side_turned Tx Tx = refl
side_turned Tx Rx = refl
side_turned Rx Tx = refl
side_turned Rx Rx = refl

pub sides_equal : (a b : Side) → same_side a b ≡ true → a ≡ b
sides_equal Tx Tx e = refl
sides_equal Tx Rx e = absurd cc
sides_equal Rx Tx e = absurd cc
sides_equal Rx Rx e = refl

number_turned : (a b : ℕ) → (a == b) ≡ (b == a)
number_turned a b =
    elim (eqb_tells a b) [
      | inl same ↦ same.0 ∙ sym (eq-eqb b a (sym same.1))
      | inr differs ↦
          elim (eqb_tells b a) [
            | inl same ↦ absurd (differs.1 (sym same.1))
            | inr other ↦ differs.0 ∙ sym other.0
          ]
    ]

pub some_same : {A : Type 0} (x y : A) → Some x ≡ Some y → x ≡ y
some_same x y e = cc

-- ONE END AMONG OTHERS

-- an end at a place
pub record Here (number : ℕ) (side : Side) (ends : List Numbered) (k : ℕ) (x : Numbered) : Type 0 where
  pub there : slice_get ends k ≡ Some x
  pub number_is : x.0 ≡ number
  pub side_is : side_in x.1 ≡ side

pub here : (number : ℕ) (side : Side) (ends : List Numbered) (k : ℕ) (x : Numbered) → IsEndAt number side ends k → x
    ≡ get_or ends k x
    → Here number side ends k x
here number side ends k x at read =
    let same : x ≡ at.here = read ∙ get_or_from_slice_get ends k at.here x at.there in
    record {
      there = at.there ∙ ap Some (sym same);
      number_is = ap (λ (y : Numbered). y.0) same ∙ at.number_is;
      side_is = ap (λ (y : Numbered). side_in y.1) same ∙ at.side_is;
    }

pub here_is : {number : ℕ} {side : Side} {ends : List Numbered} {k : ℕ} {x : Numbered} → Here number side ends k x
    → is_at number side x ≡ true
here_is {number} {side} {ends} {k} {x} h =
    and_from (x.0 == number) (same_side (side_in x.1) side) (eq-eqb x.0 number h.number_is)
    (ap (same_side (side_in x.1)) (sym h.side_is) ∙ side_itself (side_in x.1))

-- an interlink has an end here as often as one stands here
abbrev pub count_if : Bool → ℕ
count_if true = 1
count_if false = 0

abbrev counted : ℕ → ℕ → ℕ
counted m n = cond (m == n) 1 0

one_at : (m n : ℕ) → m ≡ n → counted m n ≡ count_if true
one_at m n e = ap {B = ℕ} (λ b. cond b 1 0) (eq-eqb m n e)

pub present : (ends : List Numbered) (k : ℕ) (x : Numbered) → slice_get ends k ≡ Some x → 1 ≤ times_at x.0 ends
present [] k x there = absurd cc
present (y ∷ ends) zero x there =
    let same : y ≡ x = some_same y x there in
    omega (arith, one_at y.0 x.0 (ap (λ (z : Numbered). z.0) same))
present (y ∷ ends) (suc k) x there = omega (arith, present ends k x there)

-- what stands before it is another interlink's
pub first_differs : (y : Numbered) (ends : List Numbered) (k : ℕ) (x : Numbered) → times_at x.0 (y ∷ ends) ≤ 1
    → slice_get ends k ≡ Some x → (y.0 == x.0) ≡ false
first_differs y ends k x once there =
    elim (eqb_tells y.0 x.0) [
      | inl same ↦ absurd (omega (arith, once, present ends k x there, ap {B = ℕ} (λ b. cond b 1 0) same.0))
      | inr differs ↦ differs.0
    ]

-- THE DESK'S ENDS

rest_once : (number : ℕ) (y : Numbered) (ends : List Numbered) → times_at number (y ∷ ends) ≤ 1 → times_at number ends ≤ 1
rest_once number y ends once = omega (arith, once)

-- an interlink's end on the desk is the one that stands here
pub stands_here : (number : ℕ) (side : Side) (ends : List Numbered) (k : ℕ) (x : Numbered) → times_at x.0 ends ≤ 1
    → Here number side ends k x → ends_in ends number side ≡ desk_end (end_in x.1)
stands_here number side [] k x once h = absurd (let e : None ≡ Some x = h.there in cc)
stands_here number side (y ∷ ends) zero x once h =
    let same : y ≡ x = some_same y x h.there in
    let at : is_at number side y ≡ true = ap (is_at number side) same ∙ here_is h in
    rw at (ap (λ (z : Numbered). desk_end (end_in z.1)) same)
stands_here number side (y ∷ ends) (suc k) x once h =
    let apart : (y.0 == number) ≡ false = ap (λ n. y.0 == n) (sym h.number_is) ∙ first_differs y ends k x once h.there in
    rw apart (stands_here number side ends k x (rest_once x.0 y ends once)
    (record { there = h.there; number_is = h.number_is; side_is = h.side_is }))

pub reach_here : (number : ℕ) (side : Side) (ends : List Numbered) (k : ℕ) (x : Numbered) → times_at x.0 ends ≤ 1
    → Here number side ends k x → reach_in ends number side ≡ reach_of (end_in x.1)
reach_here number side [] k x once h = absurd (let e : None ≡ Some x = h.there in cc)
reach_here number side (y ∷ ends) zero x once h =
    let same : y ≡ x = some_same y x h.there in
    let at : is_at number side y ≡ true = ap (is_at number side) same ∙ here_is h in
    rw at (ap (λ (z : Numbered). reach_of (end_in z.1)) same)
reach_here number side (y ∷ ends) (suc k) x once h =
    let apart : (y.0 == number) ≡ false = ap (λ n. y.0 == n) (sym h.number_is) ∙ first_differs y ends k x once h.there in
    rw apart (reach_here number side ends k x (rest_once x.0 y ends once)
    (record { there = h.there; number_is = h.number_is; side_is = h.side_is }))

-- an end that was written is there
there_now : (ends : List Numbered) (k : ℕ) (x y : Numbered) → slice_get ends k ≡ Some x → slice_get (set ends k y) k ≡ Some y
there_now [] k x y there = absurd (let e : None ≡ Some x = there in cc)
there_now (z ∷ ends) zero x y there = refl
there_now (z ∷ ends) (suc k) x y there = there_now ends k x y there

pub reach_written : (number : ℕ) (side : Side) (ends : List Numbered) (k : ℕ) (x : Numbered) (y : SeatEnd) → times_at x.0 ends ≤ 1
    → times_at x.0 (set ends k (x.0, y)) ≤ 1
    → Here number side ends k x → side_in y ≡ side_in x.1 → reach_in (set ends k (x.0, y)) number side ≡ reach_of (end_in y)
reach_written number side ends k x y once still h s =
    reach_here number side (set ends k (x.0, y)) k (x.0, y) still
    (record { there = there_now ends k x (x.0, y) h.there; number_is = h.number_is; side_is = s ∙ h.side_is })

-- another end in its place, with the same number and side
at_any : (x : Numbered) (number m : ℕ) (side t : Side) → x.0 ≡ number → side_in x.1 ≡ side
    → is_at m t x ≡ (m == number && same_side t side)
at_any x number m side t n s =
    ap₂ (λ a b. a == m && same_side b t) n s ∙ ap₂ (λ a b. a && b) (number_turned number m) (side_turned side t)

twice : {A : Type 0} (b : Bool) (x y z : A) → cond b x z ≡ cond b x (cond b y z)
twice true x y z = refl
twice false x y z = refl

ends_set : (number : ℕ) (side : Side) (ends : List Numbered) (k : ℕ) (x : Numbered) (y : SeatEnd) → times_at x.0 ends ≤ 1
    → Here number side ends k x → side_in y ≡ side_in x.1 → (m : ℕ) (t : Side)
    → ends_in (set ends k (x.0, y)) m t ≡ set_end number side (desk_end (end_in y)) (ends_in ends) m t
ends_set number side [] k x y once h s m t = absurd (let e : None ≡ Some x = h.there in cc)
ends_set number side (z ∷ ends) zero x y once h s m t =
    let same : z ≡ x = some_same z x h.there in
    let old : is_at m t z ≡ (m == number && same_side t side) =
    ap (is_at m t) same ∙ at_any x number m side t h.number_is h.side_is in
    let new : is_at m t (x.0, y) ≡ (m == number && same_side t side) =
    at_any (x.0, y) number m side t h.number_is (s ∙ h.side_is) in
    ap (λ b. cond b (desk_end (end_in y)) (ends_in ends m t)) new
    ∙ (twice (m == number && same_side t side) (desk_end (end_in y)) (desk_end (end_in z.1)) (ends_in ends m t)
    ∙ ap (λ b. cond (m == number && same_side t side) (desk_end (end_in y)) (cond b (desk_end (end_in z.1)) (ends_in ends m t)))
    (sym old))
ends_set number side (z ∷ ends) (suc k) x y once h s m t =
    let rest : Here number side ends k x = record { there = h.there; number_is = h.number_is; side_is = h.side_is } in
    let again = ends_set number side ends k x y (rest_once x.0 z ends once) rest s m t in
    by (is_at m t z) refl again
  where
    apart : is_at m t z ≡ true → (m == number && same_side t side) ≡ false
    apart at =
        let z_is : z.0 ≡ m = eqb-true z.0 m (and_parts (z.0 == m) (same_side (side_in z.1) t) at).0 in
        let differs : (z.0 == x.0) ≡ false = first_differs z ends k x once h.there in
        ap (λ b. b && same_side t side) (ap₂ (λ a b. a == b) (sym z_is) (sym h.number_is) ∙ differs)

    by : (b : Bool) → is_at m t z ≡ b
        → ends_in (set ends k (x.0, y)) m t ≡ cond (m == number && same_side t side) (desk_end (end_in y)) (ends_in ends m t)
        → cond (is_at m t z) (desk_end (end_in z.1)) (ends_in (set ends k (x.0, y)) m t)
        ≡ cond (m == number && same_side t side) (desk_end (end_in y))
        (cond (is_at m t z) (desk_end (end_in z.1)) (ends_in ends m t))
    by true e again = rw (e, apart e) refl
    by false e again = rw e again

pub ends_written : (number : ℕ) (side : Side) (ends : List Numbered) (k : ℕ) (x : Numbered) (y : SeatEnd) → times_at x.0 ends ≤ 1
    → Here number side ends k x → side_in y ≡ side_in x.1
    → ends_in (set ends k (x.0, y)) ≡ set_end number side (desk_end (end_in y)) (ends_in ends)
ends_written number side ends k x y once h s = λ i m t. ends_set number side ends k x y once h s m t i

-- WIRES

pub wires_written : (number : ℕ) (side : Side) (ends : List Numbered) (k : ℕ) (x : Numbered) (y : SeatEnd)
    → Here number side ends k x → side_in y ≡ side_in x.1 → (end_in y).lane ≡ (end_in x.1).lane
    → wires (set ends k (x.0, y)) ≡ wires ends
wires_written number side ends k x y h s l =
    let read : get_or ends k x ≡ x = get_or_from_slice_get ends k x x h.there in
    map-set_same wire_of ends k (x.0, y) x (ap₂ (λ (a : Side) (b : LaneId). (x.0, a, b)) s l ∙ ap wire_of (sym read))

wire_here : (ends : List Numbered) (k : ℕ) (x : Numbered) → slice_get ends k ≡ Some x → slice_get (wires ends) k ≡ Some
    (wire_of x)
wire_here [] k x there = absurd cc
wire_here (y ∷ ends) zero x there = ap (λ (z : Numbered). Some (wire_of z)) (some_same y x there)
wire_here (y ∷ ends) (suc k) x there = wire_here ends k x there

pub link_here : {number : ℕ} {side : Side} {ends : List Numbered} {k : ℕ} {x : Numbered} {link : LaneId} → Links ends number link
    → Here number side ends k x → (end_in x.1).lane ≡ link
link_here {ends = ends} {k} {x} links h = links k (wire_of x) (wire_here ends k x h.there) h.number_is

-- LOGS

absent : (number : ℕ) (ends : List Numbered) → times_at number ends ≡ 0 → log_at number ends ≡ []
absent number [] none = refl
absent number (x ∷ ends) none =
    elim (eqb_tells x.0 number) [
      | inl same ↦ absurd (omega (arith, none, ap {B = ℕ} (λ b. cond b 1 0) same.0))
      | inr differs ↦ rw differs.0 (absent number ends (omega (arith, none, ap {B = ℕ} (λ b. cond b 1 0) differs.0)))
    ]

pub times_set : (number : ℕ) (ends : List Numbered) (k : ℕ) (x : Numbered) (y : SeatEnd) → slice_get ends k ≡ Some x
    → times_at number (set ends k (x.0, y)) ≡ times_at number ends
times_set number [] k x y there = absurd (let e : None ≡ Some x = there in cc)
times_set number (z ∷ ends) zero x y there =
    ap (λ (w : Numbered). cond (w.0 == number) 1 0 + times_at number ends) (sym (some_same z x there))
times_set number (z ∷ ends) (suc k) x y there = ap (λ n. cond (z.0 == number) 1 0 + n) (times_set number ends k x y there)

-- one end's log grows
lane_cases : (b : Bool) (old more rest : List LaneEntry) → (b ≡ true → rest ≡ [])
    → cond b (old ++ more) [] ++ rest ≡ (cond b old [] ++ rest) ++ cond b more []
lane_cases true old more rest none =
    let e : rest ≡ [] = none refl in
    ap (λ l. (old ++ more) ++ l) e ∙ (append-nil (old ++ more)
    ∙ (ap (λ l. l ++ more) (sym (append-nil old)) ∙ ap (λ l. (old ++ l) ++ more) (sym e)))
lane_cases false old more rest none = sym (append-nil rest)

pub log_set : (number : ℕ) (ends : List Numbered) (k : ℕ) (x : Numbered) (y : SeatEnd) (more : List LaneEntry)
    → times_at number ends ≤ 1 → slice_get ends k ≡ Some x → told_log (end_in y) ≡ told_log (end_in x.1) ++ more
    → log_at number (set ends k (x.0, y)) ≡ log_at number ends ++ if_lane number x.0 more
log_set number [] k x y more once there grows = absurd (let e : None ≡ Some x = there in cc)
log_set number (z ∷ ends) zero x y more once there grows =
    let same : z ≡ x = some_same z x there in
    let none : (x.0 == number) ≡ true → log_at number ends ≡ [] =
    λ at. absent number ends
    (omega (arith, once, ap {B = ℕ} (λ (w : Numbered). cond (w.0 == number) 1 0) same, ap {B = ℕ} (λ b. cond b 1 0) at)) in
    ap (λ l. cond (x.0 == number) l [] ++ log_at number ends) grows
    ∙ (lane_cases (x.0 == number) (told_log (end_in x.1)) more (log_at number ends) none
    ∙ ap (λ (w : Numbered). (cond (w.0 == number) (told_log (end_in w.1)) [] ++ log_at number ends) ++ cond (x.0 == number)
    more [])
    (sym same))
log_set number (z ∷ ends) (suc k) x y more once there grows =
    ap (λ l. if_lane number z.0 (told_log (end_in z.1)) ++ l)
    (log_set number ends k x y more (omega (arith, once)) there grows)
    ∙ sym (append_assoc (if_lane number z.0 (told_log (end_in z.1))) (log_at number ends) (if_lane number x.0 more))

-- AN END IS THERE

any_here : (number : ℕ) (side : Side) (ends : List Numbered) → list_any (wire_is_at number side) (wires ends) ≡ true
    → list_any (is_at number side) ends ≡ true
any_here number side [] h = h
any_here number side (x ∷ ends) h = by (is_at number side x) (any_here number side ends) h
  where
    by : (b : Bool) → (list_any (wire_is_at number side) (wires ends) ≡ true → list_any (is_at number side) ends ≡ true)
        → (b || list_any (wire_is_at number side) (wires ends)) ≡ true → (b || list_any (is_at number side) ends) ≡ true
    by true more h = refl
    by false more h = more h

-- the place that a search found
pub found : (number : ℕ) (side : Side) (ends : List Numbered) (k : ℕ) → position (is_at number side) ends ≡ Some k
    → IsEndAt number side ends k
found number side [] k e = absurd cc
found number side (x ∷ ends) k e =
    let at = position-Some (is_at number side) (x ∷ ends) k x e in
    let y : Numbered = get_or (x ∷ ends) k x in
    let parts = and_parts (y.0 == number) (same_side (side_in y.1) side) at.1 in
    record {
      here = y;
      there = slice_get-get_or (x ∷ ends) k x at.0;
      number_is = eqb-true y.0 number parts.0;
      side_is = sides_equal (side_in y.1) side parts.1;
    }

pub found_within : (number : ℕ) (side : Side) (ends : List Numbered) (k : ℕ) → position (is_at number side) ends ≡ Some k
    → k < length ends
found_within number side [] k e = absurd cc
found_within number side (x ∷ ends) k e = (position-Some (is_at number side) (x ∷ ends) k x e).0

-- an end that is there is found
any_within : (number : ℕ) (side : Side) (ends : List Numbered) → list_any (is_at number side) ends ≡ true
    → position_or_len (is_at number side) ends < length ends
any_within number side [] h = absurd cc
any_within number side (x ∷ ends) h = by (is_at number side x) (any_within number side ends) h
  where
    by : (b : Bool) → (list_any (is_at number side) ends ≡ true → position_or_len (is_at number side) ends < length ends)
        → (b || list_any (is_at number side) ends) ≡ true
        → cond (not b) (1 + position_or_len (is_at number side) ends) 0 < suc (length ends)
    by true more h = omega arith
    by false more h = omega (arith, more h)

pub not_lost : (number : ℕ) (side : Side) (ends : List Numbered) → list_any (wire_is_at number side) (wires ends) ≡ true
    → position (is_at number side) ends ≡ None → ⊥
not_lost number side ends has none = absurd
    (by (position_or_len (is_at number side) ends) (length ends)
    (any_within number side ends (any_here number side ends has)) none)
  where
    by : (a n : ℕ) → a < n → cond (nat_lt a n) (Some a) None ≡ None → ⊥
    by a n lt e = let test : nat_lt a n ≡ true = lt-ltb a n lt in let some : Some a ≡ None = ap (λ b. cond b (Some a) None)
        (sym test) ∙ e in cc
