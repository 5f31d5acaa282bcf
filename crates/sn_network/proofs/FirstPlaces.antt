-- The app of a name is at the first place of that name.
use Rattle.std.proofs.Common.{◌≡◌, ℕ, suc, ◌+◌, ◌<◌, ◌≤◌, Bool, true, false, not, cond, if◌then◌else◌, bytes_eq, nat_lt, ltb-true}
use Rattle.std.proofs.Common.{List, [], ◌∷◌, length, position, slice_get, Some, None, IsSome, refl, sym, ap, subst, ◌∙◌, arith}
use Rattle.std.proofs.Common.{one-add}
use Rattle.std.proofs.lemmas.Bool.{false≢true}
use Rattle.std.specs.List.{position_or_len}
use Rattle.std.specs.Option.{option_map}
use Rattle.sn_kind.specs.Kinds.{kind_class}
use Rattle.sn_network.specs.Places.{class_in, found}
use Rattle.sn_network.specs.Standing.{name_in}
use Rattle.sn_network.specs.declared.place.Place.{Place}
use Rattle.sn_network.proofs.Found.{same_bytes}
use Rattle.sn_network.proofs.Sums.{the_same}

abbrev at_first : List Place → List ℕ → ℕ
at_first places name = position_or_len (λ place. bytes_eq name place.name) places

-- where it is within, the name stands there
named_first : (places : List Place) (name : List ℕ) → at_first places name < length places
    → name_in places (at_first places name) ≡ Some name
named_first [] name within = absurd (omega (arith, within))
named_first (x ∷ xs) name within = by (bytes_eq name x.name) refl within (named_first xs name)
  where
    by : (b : Bool) → bytes_eq name x.name ≡ b → cond (not b) (1 + at_first xs name) 0 < suc (length xs)
        → (at_first xs name < length xs → name_in xs (at_first xs name) ≡ Some name)
        → name_in (x ∷ xs) (cond (not b) (1 + at_first xs name) 0) ≡ Some name
    by true e lt more = ap Some (sym (same_bytes name x.name e))
    by false e lt more = ap (name_in (x ∷ xs)) (one-add (at_first xs name)) ∙ more (omega (arith, lt))

-- where it isn't, there is no app of the name
none_first : (places : List Place) (name : List ℕ) → length places ≤ at_first places name → class_in places name ≡ None
unfolding found
none_first [] name past = refl
none_first (x ∷ xs) name past = by (bytes_eq name x.name) past (none_first xs name)
  where
    by : (b : Bool) → suc (length xs) ≤ cond (not b) (1 + at_first xs name) 0
        → (length xs ≤ at_first xs name → class_in xs name ≡ None)
        → (if b then Some (kind_class x.kind) else class_in xs name) ≡ None
    by true lt more = absurd (omega (arith, lt))
    by false lt more = more (omega (arith, lt))

-- as an answer has it
pub found_here : (places : List Place) (name : List ℕ) (i : ℕ) → position (λ place. bytes_eq name place.name) places ≡ Some i
    → name_in places i ≡ Some name
found_here places name i e = by (nat_lt (at_first places name) (length places)) refl e
  where
    by : (b : Bool) → nat_lt (at_first places name) (length places) ≡ b → cond b (Some (at_first places name)) None ≡ Some i
        → name_in places i ≡ Some name
    by true lt is =
        ap (name_in places) (sym (the_same is)) ∙ named_first places name (ltb-true (at_first places name) (length places) lt)
    by false lt is = absurd cc

pub found_none : (places : List Place) (name : List ℕ) → position (λ place. bytes_eq name place.name) places ≡ None
    → class_in places name ≡ None
found_none places name e = by (nat_lt (at_first places name) (length places)) refl e
  where
    by : (b : Bool) → nat_lt (at_first places name) (length places) ≡ b → cond b (Some (at_first places name)) None ≡ None
        → class_in places name ≡ None
    by true lt is = absurd cc
    by false lt is = none_first places name (not_below (at_first places name) (length places) lt)
      where
        not_below : (a b : ℕ) → nat_lt a b ≡ false → b ≤ a
        not_below a b none = grind (arith, none)

pub missing : (places : List Place) (name : List ℕ) → class_in places name ≡ None → IsSome (class_in places name) → ⊥
missing places name none some = false≢true (subst (λ o. IsSome o) none some)

-- the app at a place has the name that stands there, also where that was seen through a slice
pub name_read : (seen places : List Place) (i : ℕ) (p : Place) (name : List ℕ) → seen ≡ places → slice_get places i ≡ Some p
    → name_in seen i ≡ Some name → p.name ≡ name
name_read seen places i p name same here is =
    the_same (sym (ap (λ slot. option_map (λ (place : Place). place.name) slot) here) ∙ (ap (λ ps. name_in ps i) (sym same) ∙ is))
