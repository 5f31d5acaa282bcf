-- Which ends a worker has, by the wires of its bond.
use Rattle.std.proofs.Common.{◌≡◌, ℕ, zero, suc, ◌+◌, ◌<◌, ◌==◌, ◌&&◌, Bool, true, false, cond, List, [], ◌∷◌, ◌++◌}
use Rattle.std.proofs.Common.{Option, Some, None, slice_get, refl, ap, ap₂, ◌∙◌, arith}
use Rattle.std.proofs.lemmas.Bool.{eq-eqb, eqb-true}
use Rattle.sn_core.specs.declared.events.Side.{Side}
use Rattle.sn_interlink.specs.Ends.{LaneId}
use Rattle.sn_seat.specs.SeatEnds.{Numbered, Wire, end_in, side_in, wires}
use Rattle.sn_seat.specs.declared.seat_end.SeatEnd.{SeatEnd}
use Rattle.sn_sharing.specs.Bonds.{wires_on, worker_on}
use Rattle.sn_sharing.specs.LeftEnds.{end_of}
use Rattle.sn_scenario.specs.declared.lane.Lane.{Lane}

-- WHICH END A WORKER HAS

-- the first wire of a number
abbrev pub wire_first : ℕ → List Wire → Option (Side × LaneId)
wire_first number [] = None
wire_first number (w ∷ ws) = cond (w.0 == number) (Some (w.1, w.2)) (wire_first number ws)

abbrev pub wired_as : Option SeatEnd → Option (Side × LaneId)
wired_as None = None
wired_as (Some end) = Some (side_in end, (end_in end).lane)

pub wire_end : (number : ℕ) (ends : List Numbered) → wire_first number (wires ends) ≡ wired_as (end_of number ends)
wire_end number [] = refl
wire_end number (x ∷ ends) = by (x.0 == number) (wire_end number ends)
  where
    by : (b : Bool) → wire_first number (wires ends) ≡ wired_as (end_of number ends)
        → cond {A = Option (Side × LaneId)} b (Some (side_in x.1, (end_in x.1).lane)) (wire_first number (wires ends))
        ≡ wired_as (cond b (Some x.1) (end_of number ends))
    by true rest = refl
    by false rest = rest

abbrev pub first_or : Option (Side × LaneId) → Option (Side × LaneId) → Option (Side × LaneId)
first_or None other = other
first_or (Some x) other = Some x

pub first_of_two : (number : ℕ) (one two : List Wire) → wire_first number (one ++ two) ≡ first_or (wire_first number one)
    (wire_first number two)
first_of_two number [] two = refl
first_of_two number (w ∷ one) two = by (w.0 == number) (first_of_two number one two)
  where
    by : (b : Bool) → wire_first number (one ++ two) ≡ first_or (wire_first number one) (wire_first number two)
        → cond {A = Option (Side × LaneId)} b (Some (w.1, w.2)) (wire_first number (one ++ two))
        ≡ first_or (cond {A = Option (Side × LaneId)} b (Some (w.1, w.2)) (wire_first number one))
        (wire_first number two)
    by true rest = refl
    by false rest = rest

one_wire : (b : Bool) (number from : ℕ) (side : Side) (id : LaneId) (ws : List Wire)
    → wire_first number (cond b ((from, side, id) ∷ []) [] ++ ws)
    ≡ cond {A = Option (Side × LaneId)} (b && from == number) (Some (side, id)) (wire_first number ws)
one_wire true number from side id ws = refl
one_wire false number from side id ws = refl

none_above : (side : Side) (worker number from : ℕ) (lanes : List Lane) (ids : List LaneId) → number < from
    → wire_first number (wires_on side worker from lanes ids) ≡ None
none_above side worker number from [] ids above = refl
none_above side worker number from (line ∷ lanes) [] above = refl
none_above side worker number from (line ∷ lanes) (id ∷ ids) above =
    one_wire (worker_on side line == worker) number from side id (wires_on side worker (from + 1) lanes ids)
    ∙ by (worker_on side line == worker) (from == number) refl
    (none_above side worker number (from + 1) lanes ids (omega (arith, above)))
  where
    by : (a b : Bool) → (from == number) ≡ b → wire_first number (wires_on side worker (from + 1) lanes ids) ≡ None
        → cond {A = Option (Side × LaneId)} (a && b) (Some (side, id))
        (wire_first number (wires_on side worker (from + 1) lanes ids)) ≡ None
    by false b e rest = rest
    by true false e rest = rest
    by true true e rest = absurd (let same = eqb-true from number e in omega (arith, same, above))

-- a worker's wires on a side have the number of an interlink exactly where the worker has that end of it
pub wire_on : (side : Side) (worker from : ℕ) (lanes : List Lane) (ids : List LaneId) (i : ℕ) (line : Lane) (id : LaneId)
    → slice_get lanes i ≡ Some line → slice_get ids i ≡ Some id
    → wire_first (from + i) (wires_on side worker from lanes ids)
    ≡ cond {A = Option (Side × LaneId)} (worker_on side line == worker) (Some (side, id)) None
wire_on side worker from [] ids i line id there at = absurd (let e : None ≡ Some line = there in cc)
wire_on side worker from (l ∷ lanes) [] i line id there at = absurd (let e : None ≡ Some id = at in cc)
wire_on side worker from (l ∷ lanes) (d ∷ ids) zero line id there at =
    let same : l ≡ line = let e : Some l ≡ Some line = there in cc in
    let one : d ≡ id = let e : Some d ≡ Some id = at in cc in
    one_wire (worker_on side l == worker) (from + 0) from side d (wires_on side worker (from + 1) lanes ids)
    ∙ (ap₂ (λ b n. cond {A = Option (Side × LaneId)} ((worker_on side l == worker) && b) (Some (side, d)) n) (eq-eqb from
    (from + 0) (omega arith))
    (none_above side worker (from + 0) (from + 1) lanes ids (omega arith))
    ∙ (and_true (worker_on side l == worker)
    ∙ ap₂ (λ (x : Lane) (y : LaneId). cond {A = Option (Side × LaneId)} (worker_on side x == worker) (Some
    (side, y)) None) same one))
  where
    and_true : (b : Bool) → cond {A = Option (Side × LaneId)} (b && true) (Some (side, d)) None
        ≡ cond {A = Option (Side × LaneId)} b (Some (side, d)) None
    and_true true = refl
    and_true false = refl
wire_on side worker from (l ∷ lanes) (d ∷ ids) (suc i) line id there at =
    one_wire (worker_on side l == worker) (from + suc i) from side d (wires_on side worker (from + 1) lanes ids)
    ∙ (by (worker_on side l == worker) (from == from + suc i) refl
    ∙ (ap (λ n. wire_first n (wires_on side worker (from + 1) lanes ids)) (more from i)
    ∙ wire_on side worker (from + 1) lanes ids i line id there at))
  where
    more : (m n : ℕ) → m + suc n ≡ (m + 1) + n
    more m n = omega arith

    by : (a b : Bool) → (from == from + suc i) ≡ b
        → cond {A = Option (Side × LaneId)} (a && b) (Some (side, d)) (wire_first (from + suc i) (wires_on side worker
        (from + 1) lanes ids))
        ≡ wire_first (from + suc i) (wires_on side worker (from + 1) lanes ids)
    by false b e = refl
    by true false e = refl
    by true true e = absurd (let same = eqb-true from (from + suc i) e in omega (arith, same))
