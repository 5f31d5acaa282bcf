-- What the new ends of a worker are as wires, and how they stand.
use Rattle.std.proofs.Common.{◌≡◌, ◌≢◌, ℕ, zero, suc, ◌+◌, ◌<◌, ◌≤◌, ◌==◌, ◌&&◌, Bool, true, false, cond, List, [], ◌∷◌, ◌++◌}
use Rattle.std.proofs.Common.{Some, None, map, slice_get, refl, sym, ap, ap₂, ◌∙◌, subst, inl, inr, arith, ◌⊎◌}
use Rattle.std.proofs.lemmas.Bool.{eqb-true}
use Rattle.std.proofs.lemmas.List.{map-append}
use Rattle.sn_app.specs.Desk.{out_end}
use Rattle.sn_core.specs.declared.events.Side.{Side}
use Rattle.sn_core.specs.declared.events.Side.TheVariants.{Rx, Tx}
use Rattle.sn_interlink.specs.Ends.{LaneEnd, LaneId, new_lane_end}
use Rattle.sn_scenario.specs.declared.lane.Lane.{Lane}
use Rattle.sn_seat.specs.Openings.{AreNew, all_ends, as_receiver, as_transmitter}
use Rattle.sn_seat.specs.SeatEnds.{Numbered, Wire, desk_end, end_in, ends_in, is_at, side_in, times_at, wire_of, wires}
use Rattle.sn_sharing.proofs.Lists.{from_row, some_same}
use Rattle.sn_sharing.specs.Bonds.{wires_at, wires_on, worker_on}
use Rattle.sn_sharing.specs.Laying.{new_ends}

-- a new end as a seat keeps it
abbrev pub kept_as : Side → ℕ × LaneEnd → Numbered
kept_as Tx x = as_transmitter x
kept_as Rx x = as_receiver x

kept_wire : (side : Side) (number : ℕ) (id : LaneId) → wire_of (kept_as side (number, new_lane_end id side)) ≡ (number, side, id)
kept_wire Tx number id = refl
kept_wire Rx number id = refl

kept_number : (side : Side) (x : ℕ × LaneEnd) → (kept_as side x).0 ≡ x.0
kept_number Tx x = refl
kept_number Rx x = refl

-- WIRES

side_wires : (side : Side) (worker from : ℕ) (lanes : List Lane) (ids : List LaneId)
    → wires (map (kept_as side) (new_ends side worker from lanes ids)) ≡ wires_on side worker from lanes ids
side_wires side worker from [] ids = refl
side_wires side worker from (lane ∷ lanes) [] = refl
side_wires side worker from (lane ∷ lanes) (id ∷ ids) =
    by (worker_on side lane == worker) (side_wires side worker (from + 1) lanes ids)
  where
    by : (b : Bool)
        → wires (map (kept_as side) (new_ends side worker (from + 1) lanes ids)) ≡ wires_on side worker (from + 1) lanes ids
        → wires (map (kept_as side) (cond b ((from, new_lane_end id side) ∷ []) [] ++ new_ends side worker (from + 1) lanes ids))
        ≡ cond b ((from, side, id) ∷ []) [] ++ wires_on side worker (from + 1) lanes ids
    by true rest = ap₂ (λ (w : Wire) (ws : List Wire). w ∷ ws) (kept_wire side from id) rest
    by false rest = rest

module _ (worker : ℕ) (lanes : List Lane) (ids : List LaneId) where
  abbrev mine : List Numbered
  mine = all_ends (new_ends Tx worker 0 lanes ids) (new_ends Rx worker 0 lanes ids)

  pub new_wires : wires mine ≡ wires_at worker lanes ids
  new_wires =
      map-append wire_of (map as_transmitter (new_ends Tx worker 0 lanes ids)) (map as_receiver (new_ends Rx worker 0 lanes ids))
      ∙ ap₂ (λ (a b : List Wire). a ++ b) (side_wires Tx worker 0 lanes ids) (side_wires Rx worker 0 lanes ids)

-- ONE END OF AN INTERLINK AT MOST

times_two : (number : ℕ) (one two : List Numbered) → times_at number (one ++ two) ≡ times_at number one + times_at number two
times_two number [] two = let e : times_at number two ≡ 0 + times_at number two = omega arith in e
times_two number (x ∷ one) two =
    let rest = times_two number one two in
    let e : cond (x.0 == number) 1 0 + times_at number (one ++ two)
    ≡ (cond (x.0 == number) 1 0 + times_at number one) + times_at number two = omega (arith, rest) in e

-- how often a number stands among a worker's new ends on a side
abbrev times_on : Side → ℕ → ℕ → ℕ → List Lane → List LaneId → ℕ
times_on side number worker from lanes ids = times_at number (map (kept_as side) (new_ends side worker from lanes ids))

abbrev as_one : Bool → ℕ
as_one true = 1
as_one false = 0

times_head : (side : Side) (number worker from : ℕ) (lane : Lane) (lanes : List Lane) (id : LaneId) (ids : List LaneId)
    → times_on side number worker from (lane ∷ lanes) (id ∷ ids)
    ≡ as_one ((worker_on side lane == worker) && (from == number)) + times_on side number worker (from + 1) lanes ids
times_head side number worker from lane lanes id ids = by (worker_on side lane == worker) (from == number) refl
  where
    by : (a b : Bool) → (from == number) ≡ b
        → times_at number (map (kept_as side) (cond a ((from, new_lane_end id side) ∷ []) []
        ++ new_ends side worker (from + 1) lanes ids))
        ≡ as_one (a && b) + times_on side number worker (from + 1) lanes ids
    by false b e =
        let zero_on : times_on side number worker (from + 1) lanes ids ≡ 0 + times_on side number worker (from + 1) lanes ids =
        omega arith in
        zero_on
    by true true e = rw (kept_number side (from, new_lane_end id side), e) refl
    by true false e = rw (kept_number side (from, new_lane_end id side), e) refl

pub record Apart (lanes : List Lane) : Type 0 where
  pub each : (k : ℕ) (lane : Lane) → slice_get lanes k ≡ Some lane → lane.tx ≢ lane.rx

rest_apart : (lane : Lane) (lanes : List Lane) → Apart (lane ∷ lanes) → Apart lanes
rest_apart lane lanes a = record { each = λ k l there. a.each (suc k) l there }

-- no number below the first stands there, and each other one once at most
none_below : (side : Side) (number worker from : ℕ) (lanes : List Lane) (ids : List LaneId) → number < from
    → times_on side number worker from lanes ids ≡ 0
none_below side number worker from [] ids below = refl
none_below side number worker from (lane ∷ lanes) [] below = refl
none_below side number worker from (lane ∷ lanes) (id ∷ ids) below =
    let head = times_head side number worker from lane lanes id ids in
    let rest = none_below side number worker (from + 1) lanes ids (omega (arith, below)) in
    by (worker_on side lane == worker) (from == number) refl head rest
  where
    by : (a b : Bool) → (from == number) ≡ b
        → times_on side number worker from (lane ∷ lanes) (id ∷ ids)
        ≡ as_one (a && b) + times_on side number worker (from + 1) lanes ids
        → times_on side number worker (from + 1) lanes ids ≡ 0 → times_on side number worker from (lane ∷ lanes) (id ∷ ids) ≡ 0
    by false b e head rest = omega (arith, head, rest)
    by true false e head rest = omega (arith, head, rest)
    by true true e head rest = absurd (let same = eqb-true from number e in omega (arith, same, below))

once_on : (number worker from : ℕ) (lanes : List Lane) (ids : List LaneId) → Apart lanes
    → times_on Tx number worker from lanes ids + times_on Rx number worker from lanes ids ≤ 1
once_on number worker from [] ids apart = omega arith
once_on number worker from (lane ∷ lanes) [] apart = omega arith
once_on number worker from (lane ∷ lanes) (id ∷ ids) apart =
    let tx = times_head Tx number worker from lane lanes id ids in
    let rx = times_head Rx number worker from lane lanes id ids in
    let rest = once_on number worker (from + 1) lanes ids (rest_apart lane lanes apart) in
    by (lane.tx == worker) (lane.rx == worker) (from == number) refl refl refl tx rx rest
    (none_below Tx number worker (from + 1) lanes ids) (none_below Rx number worker (from + 1) lanes ids)
  where
    by : (a b c : Bool) → (lane.tx == worker) ≡ a → (lane.rx == worker) ≡ b → (from == number) ≡ c
        → times_on Tx number worker from (lane ∷ lanes) (id ∷ ids)
        ≡ as_one (a && c) + times_on Tx number worker (from + 1) lanes ids
        → times_on Rx number worker from (lane ∷ lanes) (id ∷ ids)
        ≡ as_one (b && c) + times_on Rx number worker (from + 1) lanes ids
        → times_on Tx number worker (from + 1) lanes ids + times_on Rx number worker (from + 1) lanes ids ≤ 1
        → (number < from + 1 → times_on Tx number worker (from + 1) lanes ids ≡ 0)
        → (number < from + 1 → times_on Rx number worker (from + 1) lanes ids ≡ 0)
        → times_on Tx number worker from (lane ∷ lanes) (id ∷ ids) + times_on Rx number worker from (lane ∷ lanes) (id ∷ ids) ≤ 1
    by false false c d e f tx rx rest no_tx no_rx = omega (arith, tx, rx, rest)
    by true true c d e f tx rx rest no_tx no_rx =
        absurd (apart.each 0 lane refl (eqb-true lane.tx worker d ∙ sym (eqb-true lane.rx worker e)))
    by true false false d e f tx rx rest no_tx no_rx = omega (arith, tx, rx, rest)
    by false true false d e f tx rx rest no_tx no_rx = omega (arith, tx, rx, rest)
    by true false true d e f tx rx rest no_tx no_rx =
        let below : number < from + 1 = omega (arith, eqb-true from number f) in
        omega (arith, tx, rx, no_tx below, no_rx below)
    by false true true d e f tx rx rest no_tx no_rx =
        let below : number < from + 1 = omega (arith, eqb-true from number f) in
        omega (arith, tx, rx, no_tx below, no_rx below)

-- EACH IS NEW

new_on : (side : Side) (worker from : ℕ) (lanes : List Lane) (ids : List LaneId) (k : ℕ) (x : ℕ × LaneEnd)
    → slice_get (new_ends side worker from lanes ids) k ≡ Some x → x.1 ≡ new_lane_end x.1.lane side
new_on side worker from [] ids k x there = absurd (let e : None ≡ Some x = there in cc)
new_on side worker from (lane ∷ lanes) [] k x there = absurd (let e : None ≡ Some x = there in cc)
new_on side worker from (lane ∷ lanes) (id ∷ ids) k x there =
    by (worker_on side lane == worker) k there (λ j. new_on side worker (from + 1) lanes ids j x)
  where
    by : (b : Bool) (j : ℕ)
        → slice_get (cond b ((from, new_lane_end id side) ∷ []) [] ++ new_ends side worker (from + 1) lanes ids) j ≡ Some x
        → ((i : ℕ) → slice_get (new_ends side worker (from + 1) lanes ids) i ≡ Some x → x.1 ≡ new_lane_end x.1.lane side)
        → x.1 ≡ new_lane_end x.1.lane side
    by false j e rest = rest j e
    by true zero e rest =
        let same : (from, new_lane_end id side) ≡ x = some_same (from, new_lane_end id side) x e in
        subst (λ (y : ℕ × LaneEnd). y.1 ≡ new_lane_end y.1.lane side) same refl
    by true (suc j) e rest = rest j e

in_either : (one two : List Numbered) (k : ℕ) (x : Numbered) → slice_get (one ++ two) k ≡ Some x
    → (slice_get one k ≡ Some x) ⊎ ((j : ℕ) × (slice_get two j ≡ Some x))
in_either [] two k x there = inr (k, there)
in_either (y ∷ one) two zero x there = inl there
in_either (y ∷ one) two (suc k) x there = in_either one two k x there

pub ends_new : (worker : ℕ) (lanes : List Lane) (ids : List LaneId) → Apart lanes
    → AreNew (all_ends (new_ends Tx worker 0 lanes ids) (new_ends Rx worker 0 lanes ids))
ends_new worker lanes ids apart = record {
  once =
      λ number.
      let two = times_two number (map as_transmitter (new_ends Tx worker 0 lanes ids)) (map as_receiver
      (new_ends Rx worker 0 lanes ids)) in
      omega (arith, two, once_on number worker 0 lanes ids apart);
  each =
      λ k x there.
      elim (in_either (map as_transmitter (new_ends Tx worker 0 lanes ids)) (map as_receiver
      (new_ends Rx worker 0 lanes ids)) k x there) [
        | inl tx ↦
            let row = from_row as_transmitter (new_ends Tx worker 0 lanes ids) k x tx in
            subst (λ (y : Numbered). end_in y.1 ≡ new_lane_end (end_in y.1).lane (side_in y.1)) row.is
            (new_on Tx worker 0 lanes ids k row.row row.there)
        | inr rx ↦
            let row = from_row as_receiver (new_ends Rx worker 0 lanes ids) rx.0 x rx.1 in
            subst (λ (y : Numbered). end_in y.1 ≡ new_lane_end (end_in y.1).lane (side_in y.1)) row.is
            (new_on Rx worker 0 lanes ids rx.0 row.row row.there)
      ];
}

-- new ends are out on the desk
pub new_are_out : (ends : List Numbered) → ((k : ℕ) (x : Numbered) → slice_get ends k ≡ Some x → end_in x.1
    ≡ new_lane_end (end_in x.1).lane (side_in x.1))
    → (number : ℕ) (side : Side) → ends_in ends number side ≡ out_end
new_are_out [] new number side = refl
new_are_out (x ∷ ends) new number side =
    by (is_at number side x) (new_are_out ends (λ k y there. new (suc k) y there) number side)
  where
    by : (b : Bool) → ends_in ends number side ≡ out_end
        → cond b (desk_end (end_in x.1)) (ends_in ends number side) ≡ out_end
    by true rest = ap desk_end (new 0 x refl)
    by false rest = rest
