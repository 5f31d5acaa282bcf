-- What is read off the app of a name.
use Rattle.std.proofs.Common.{◌≡◌, ℕ, zero, suc, ◌≤◌, Bool, true, false, cond, if◌then◌else◌, bytes_eq, List, [], ◌∷◌, set}
use Rattle.std.proofs.Common.{slice_get, Some, refl, sym, ap, ◌∙◌, arith}
use Rattle.std.proofs.lemmas.List.Sums.{sum_by-cons}
use Rattle.std.specs.Cmp.Lexicographic.{bytes_decides}
use Rattle.sn_network.specs.Places.{found, is_named, named_in}
use Rattle.sn_network.specs.declared.place.Place.{Place}
use Rattle.sn_network.proofs.Sums.{one_within, sum_set, the_same}

pub same_bytes : (a b : List ℕ) → bytes_eq a b ≡ true → a ≡ b
same_bytes a b e = (bytes_decides a b).0 e

pub bytes_itself : (a : List ℕ) → bytes_eq a a ≡ true
bytes_itself a = (bytes_decides a a).1 refl

-- it counts itself
named_itself : (place : Place) → is_named place.name place ≡ 1
unfolding is_named
named_itself place = ap (λ b. cond {A = ℕ} b 1 0) (bytes_itself place.name)

named_true : (name : List ℕ) (place : Place) → bytes_eq name place.name ≡ true → is_named name place ≡ 1
unfolding is_named
named_true name place e = ap (λ b. cond {A = ℕ} b 1 0) e

-- a name that is somewhere is nowhere before
pub named_past : (name : List ℕ) (place : Place) (places : List Place) → named_in name (place ∷ places) ≤ 1
    → 1 ≤ named_in name places
    → bytes_eq name place.name ≡ false
unfolding named_in
named_past name place places once there = by (bytes_eq name place.name) refl
  where
    by : (b : Bool) → bytes_eq name place.name ≡ b → b ≡ false
    by false e = refl
    by true e =
        let here = named_true name place e in let s = sum_by-cons (is_named name) place places in
        absurd (omega (arith, here, s, once, there))

pub once_rest : (name : List ℕ) (place : Place) (places : List Place) → named_in name (place ∷ places) ≤ 1
    → named_in name places ≤ 1
unfolding named_in
once_rest name place places once = let s = sum_by-cons (is_named name) place places in omega (arith, s, once)

pub named_there : (places : List Place) (i : ℕ) (p : Place) → slice_get places i ≡ Some p → 1 ≤ named_in p.name places
unfolding named_in
named_there places i p here =
    let one = one_within (is_named p.name) places i p here in let it = named_itself p in omega (arith, one, it)

module _ {A : Type 0} (f : Place → A) where
  -- the app of a name that stands once
  pub found_at : (places : List Place) (i : ℕ) (p : Place) → slice_get places i ≡ Some p → named_in p.name places ≤ 1
      → found f places p.name ≡ Some (f p)
  unfolding found
  found_at [] i p here once = absurd cc
  found_at (q ∷ qs) zero p here once =
      let e : q ≡ p = the_same here in
      ap (λ b. if b then Some (f q) else found f qs p.name) (ap (λ (x : Place). bytes_eq p.name x.name) e ∙ bytes_itself p.name)
      ∙ ap (λ x. Some (f x)) e
  found_at (q ∷ qs) (suc i) p here once =
      let past = named_past p.name q qs once (named_there qs i p here) in
      ap (λ b. if b then Some (f q) else found f qs p.name) past ∙ found_at qs i p here (once_rest p.name q qs once)

  -- another app of the same name
  pub found_set_other : (places : List Place) (i : ℕ) (p q : Place) (name : List ℕ) → slice_get places i ≡ Some p
      → q.name ≡ p.name
      → bytes_eq name p.name ≡ false → found f (set places i q) name ≡ found f places name
  unfolding found
  found_set_other [] i p q name here same other = refl
  found_set_other (x ∷ xs) zero p q name here same other =
      let e : x ≡ p = the_same here in
      ap (λ b. if b then Some (f q) else found f xs name) (ap (bytes_eq name) same ∙ other)
      ∙ sym (ap (λ b. if b then Some (f x) else found f xs name) (ap (λ (y : Place). bytes_eq name y.name) e ∙ other))
  found_set_other (x ∷ xs) (suc i) p q name here same other =
      ap (λ rest. if bytes_eq name x.name then Some (f x) else rest) (found_set_other xs i p q name here same other)

-- two readings that agree where the name is
pub found_as : {A : Type 0} (f g : Place → A) (places : List Place) (name : List ℕ)
    → ((j : ℕ) (q : Place) → slice_get places j ≡ Some q → bytes_eq name q.name ≡ true → g q ≡ f q)
    → found g places name ≡ found f places name
unfolding found
found_as f g [] name agree = refl
found_as f g (q ∷ qs) name agree = by (bytes_eq name q.name) refl (found_as f g qs name (λ j x. agree (suc j) x))
  where
    by : (b : Bool) → bytes_eq name q.name ≡ b → found g qs name ≡ found f qs name
        → (if b then Some (g q) else found g qs name) ≡ (if b then Some (f q) else found f qs name)
    by true e more = ap Some (agree 0 q refl e)
    by false e more = more

-- how often a name stands, with another app of the same name
pub named_set : (places : List Place) (i : ℕ) (p q : Place) (name : List ℕ) → slice_get places i ≡ Some p → q.name ≡ p.name
    → named_in name (set places i q) ≡ named_in name places
unfolding named_in is_named
named_set places i p q name here same =
    let s = sum_set (is_named name) places i p q here in
    let e : is_named name q ≡ is_named name p = ap (λ n. cond {A = ℕ} (bytes_eq name n) 1 0) same in
    omega (arith, s, e)
