-- The turn of slots at a step: what is given back and taken, and that the slots stay right.
use Rattle.std.proofs.Common.{◌≡◌, ◌≢◌, ◌<◌, ◌≤◌, ℕ, ◌+◌, ◌%◌, Bool, true, false, List, length, set, refl, sym, ◌∙◌, subst, arith}
use Rattle.std.proofs.lemmas.Bool.{ltb-true, ltb-false, true≢false}
use Rattle.std.proofs.lemmas.List.{length-set}
use mathlib.Core.Option.{none, some}
use mathlib.Core.Option as maybe
use native.Mathlib.Decide.{dec_le}
use lib.ListN.{get_elem?}
use Rattle.atomic_table.specs.Table.{chain, homes_after, carried_after, Valid}
use Rattle.atomic_table.proofs.Lists.{one_turn, set_here, set_else}
use Rattle.sn_interlink.specs.declared.view.Hand.{Hand}
use Rattle.sn_interlink.specs.Rule.{Lying, first_of, bound_of, Lends}
use Rattle.sn_interlink.specs.Moves.{if_out, if_gives, if_takes, lends}

-- the slots after one was given back, and after one was taken
abbrev pub given : Bool → ℕ → Lying → List (maybe.Option Lying) → List (maybe.Option Lying)
given true slot x homes = set homes slot (some x)
given false slot x homes = homes

abbrev pub fetched : Bool → ℕ → List (maybe.Option Lying) → List (maybe.Option Lying)
fetched true slot homes = set homes slot none
fetched false slot homes = homes

pub turn_valid : (homes : List (maybe.Option Lying)) (a b : Bool) (slot x : ℕ) (y z : Lying)
    → (b ≡ true → get_elem? (given a slot y homes) x ≡ some (some z)) → Valid homes (if_out a slot y) (chain (if_gives a) (if_takes b x z))
turn_valid homes true true slot x y z there = (tt, there refl)
turn_valid homes true false slot x y z there = (tt, tt)
turn_valid homes false true slot x y z there = (tt, there refl)
turn_valid homes false false slot x y z there = (tt, tt)

pub turn_carried : (a b : Bool) (slot x : ℕ) (y z : Lying) → carried_after (if_out a slot y) (chain (if_gives a) (if_takes b x z)) ≡ if_out b x z
turn_carried true true slot x y z = refl
turn_carried true false slot x y z = refl
turn_carried false true slot x y z = refl
turn_carried false false slot x y z = refl

pub turn_homes : (homes : List (maybe.Option Lying)) (a b : Bool) (slot x : ℕ) (y z : Lying)
    → homes_after homes (if_out a slot y) (chain (if_gives a) (if_takes b x z)) ≡ fetched b x (given a slot y homes)
turn_homes homes true true slot x y z = refl
turn_homes homes true false slot x y z = refl
turn_homes homes false true slot x y z = refl
turn_homes homes false false slot x y z = refl

pub length_turned : (homes : List (maybe.Option Lying)) (a b : Bool) (slot x : ℕ) (y : Lying) → length (fetched b x (given a slot y homes)) ≡ length homes
length_turned homes true true slot x y = length-set (set homes slot (some y)) x none ∙ length-set homes slot (some y)
length_turned homes true false slot x y = length-set homes slot (some y)
length_turned homes false true slot x y = length-set homes x none
length_turned homes false false slot x y = refl

-- two positions of a window of 1024 in one slot are one position
pub one_place : (from a b : ℕ) → from ≤ a → a < from + 1024 → from ≤ b → b < from + 1024 → a % 1024 ≡ b % 1024 → a ≡ b
one_place from a b fa ab fb bb same = by (dec_le a b)
  where
    by : Dec (a ≤ b) → a ≡ b
    by (yes le) = one_turn a b 1024 le (omega arith) same
    by (no gt) = sym (one_turn b a 1024 (omega (arith, gt)) (omega arith) (sym same))

pub lends_true : (h : Hand) → lends h ≡ true → first_of h < bound_of h
lends_true h e = ltb-true (first_of h) (bound_of h) e

pub lends_false : (h : Hand) (place : ℕ) → lends h ≡ false → Lends h place → ⊥
lends_false h place e l = let o = ltb-false (first_of h) (bound_of h) e in omega (arith, o, l.within)

-- a place that isn't the one lent by this hand has another slot
pub record Elsewhere (h : Hand) (place : ℕ) : Type 0 where
  pub slot : lends h ≡ true → place % 1024 ≢ first_of h % 1024

pub elsewhere : (from : ℕ) (h : Hand) (place : ℕ) → (Lends h place → ⊥) → ((q : ℕ) → Lends h q → (from ≤ q) × (q < from + 1024)) → from ≤ place → place < from + 1024 → Elsewhere h place
elsewhere from h place out inside fp bp = record {
  slot = λ e same. let l = lends_true h e in
      let w = inside (first_of h) (record { here = refl; within = l }) in
      out (record { here = one_place from place (first_of h) fp bp w.0 w.1 same; within = l });
}

-- what is read of the slots then
pub read_given : (homes : List (maybe.Option Lying)) (a : Bool) (slot k : ℕ) (y : Lying) → (a ≡ true → k ≢ slot) → get_elem? (given a slot y homes) k ≡ get_elem? homes k
read_given homes true slot k y other = set_else homes slot k (some y) (other refl)
read_given homes false slot k y other = refl

pub read_back : (homes : List (maybe.Option Lying)) (a : Bool) (slot k : ℕ) (y : Lying) → a ≡ true → k ≡ slot → slot < length homes → get_elem? (given a slot y homes) k ≡ some (some y)
read_back homes true slot k y e same within = subst (λ j. get_elem? (set homes slot (some y)) j ≡ some (some y)) (sym same) (set_here homes slot (some y) within)
read_back homes false slot k y e same within = absurd (true≢false (sym e))

pub read_fetched : (homes : List (maybe.Option Lying)) (b : Bool) (slot k : ℕ) → (b ≡ true → k ≢ slot) → get_elem? (fetched b slot homes) k ≡ get_elem? homes k
read_fetched homes true slot k other = set_else homes slot k none (other refl)
read_fetched homes false slot k other = refl
