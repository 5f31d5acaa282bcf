-- The same apps with other ports: what is read off them is the same.
use Rattle.std.proofs.Common.{◌≡◌, ℕ, zero, suc, ◌+◌, ◌<◌, ◌≤◌, List, [], ◌∷◌, length, map, set, slice_get, Option, Some, refl}
use Rattle.std.proofs.Common.{sym, ap, subst, ◌∙◌, arith, inl, inr, bytes_eq, if◌then◌else◌, sum_by}
use Rattle.std.proofs.lemmas.Bool.{cases_eq}
use Rattle.std.proofs.lemmas.List.Sums.{sum_by-cons}
use Rattle.sn_app.specs.Desk.{Tray}
use Rattle.sn_app.specs.World.{Used}
use Rattle.sn_actions.specs.PlainForms.{PlainForm}
use Rattle.sn_kind.specs.declared.kind.AppKind.{AppKind}
use Rattle.sn_kind.specs.Kinds.{kind_can_run, kind_class, kind_places, kind_state}
use Rattle.sn_link.specs.Link.{Line}
use Rattle.sn_network.specs.Places.{bare, class_in, found, is_named, kept_in, named_in, states_in}
use Rattle.sn_network.specs.Standing.{CanRun, Stands}
use Rattle.sn_network.specs.declared.place.Place.{Place}
use Rattle.sn_app.proofs.Moving.{sound_as}
use Rattle.sn_network.proofs.Sums.{get_set, get_set_other, the_same}

-- as many apps
pub still_within : (xs ys : List Place) (i : ℕ) → map bare xs ≡ map bare ys → i < length ys → i < length xs
still_within xs [] i e lt = absurd (omega (arith, lt))
still_within [] (y ∷ ys) i e lt = absurd cc
still_within (x ∷ xs) (y ∷ ys) zero e lt = omega arith
still_within (x ∷ xs) (y ∷ ys) (suc i) e lt =
    let rest : map bare xs ≡ map bare ys = cc in let h = still_within xs ys i rest (omega (arith, lt)) in omega (arith, h)

-- one app with other ports
pub bare_set : (xs : List Place) (i : ℕ) (x y : Place) → slice_get xs i ≡ Some x → bare y ≡ bare x
    → map bare (set xs i y) ≡ map bare xs
bare_set [] i x y here same = absurd cc
bare_set (z ∷ zs) zero x y here same = ap (λ (b : List ℕ × AppKind). b ∷ map bare zs) (same ∙ ap bare (sym (the_same here)))
bare_set (z ∷ zs) (suc i) x y here same = ap (λ bs. bare z ∷ bs) (bare_set zs i x y here same)

-- what holds of each app up to one more
pub each_next : (P : Place → Type 0) (xs : List Place) (at : ℕ) (x y : Place) → slice_get xs at ≡ Some x → P y
    → ((i : ℕ) (place : Place) → i < at → slice_get xs i ≡ Some place → P place)
    → (i : ℕ) (place : Place) → i < at + 1 → slice_get (set xs at y) i ≡ Some place → P place
each_next P xs at x y here holds before i place lt there = elim (cases_eq i at) [
  | inl e ↦
      let is : y ≡ place = the_same (sym (get_set xs at x y here) ∙ (ap (slice_get (set xs at y)) (sym e) ∙ there)) in
      subst P is holds
  | inr apart ↦ before i place (omega (arith, lt, apart)) (sym (get_set_other xs at i y apart) ∙ there)
]

-- SUMS AND READINGS

module _ (f : List ℕ × AppKind → ℕ) where
  sums_bare : (xs ys : List Place) → map bare ys ≡ map bare xs
      → sum_by (λ (p : Place). f (bare p)) ys ≡ sum_by (λ (p : Place). f (bare p)) xs
  sums_bare [] [] e = refl
  sums_bare [] (y ∷ ys) e = absurd cc
  sums_bare (x ∷ xs) [] e = absurd cc
  sums_bare (x ∷ xs) (y ∷ ys) e =
      let first : bare y ≡ bare x = cc in
      let rest : map bare ys ≡ map bare xs = cc in
      let h = sums_bare xs ys rest in
      let a = sum_by-cons (λ (p : Place). f (bare p)) x xs in
      let b = sum_by-cons (λ (p : Place). f (bare p)) y ys in
      let c : f (bare y) ≡ f (bare x) = ap f first in
      omega (arith, h, a, b, c)

module _ {A : Type 0} (f : AppKind → A) where
  found_bare : (xs ys : List Place) → map bare ys ≡ map bare xs → (name : List ℕ)
      → found (λ p. f p.kind) ys name ≡ found (λ p. f p.kind) xs name
  unfolding found
  found_bare [] [] e name = refl
  found_bare [] (y ∷ ys) e name = absurd cc
  found_bare (x ∷ xs) [] e name = absurd cc
  found_bare (x ∷ xs) (y ∷ ys) e name =
      let first : bare y ≡ bare x = cc in
      let rest : map bare ys ≡ map bare xs = cc in
      ap (λ more. if bytes_eq name y.name then Some (f y.kind) else more) (found_bare xs ys rest name)
      ∙ ap (λ (b : List ℕ × AppKind). if bytes_eq name b.0 then Some (f b.1) else found (λ p. f p.kind) xs name) first

module _ (xs ys : List Place) (same : map bare ys ≡ map bare xs) where
  pub kept_bare : (place : ℕ) → kept_in ys place ≡ kept_in xs place
  unfolding kept_in
  kept_bare place = sums_bare (λ b. kind_places b.1 place) xs ys same

  named_bare : (name : List ℕ) → named_in name ys ≡ named_in name xs
  unfolding named_in is_named
  named_bare name = sums_bare (λ b. if bytes_eq name b.0 then 1 else 0) xs ys same

  pub states_bare : (u : Used) (t : Tray) (name : List ℕ) → states_in ys u t name ≡ states_in xs u t name
  states_bare u t name = found_bare (λ kind. kind_state kind u t) xs ys same name

  pub classes_bare : (name : List ℕ) → class_in ys name ≡ class_in xs name
  classes_bare name = found_bare kind_class xs ys same name

  pub stands_bare : (slots : List (Option Line)) (plain : PlainForm) (t : Tray) (u : Used) → Stands xs slots plain t u
      → Stands ys slots plain t u
  stands_bare slots plain t u h = record {
    apps = record {
      once = λ name. subst (λ n. n ≤ 1) (sym (named_bare name)) (h.apps.once name);
      classes = λ name. classes_bare name ∙ h.apps.classes name;
      ready = ready_bare t xs ys same h.apps.ready;
    };
    links = h.links;
    consistent = h.consistent;
    sound = sound_as kept_bare h.sound;
  }
    where
      ready_bare : (t : Tray) (os ns : List Place) → map bare ns ≡ map bare os → CanRun os t → CanRun ns t
      ready_bare t [] [] e ready i place there = ready i place there
      ready_bare t [] (b ∷ ns) e ready i place there = absurd cc
      ready_bare t (a ∷ os) [] e ready i place there = absurd cc
      ready_bare t (a ∷ os) (b ∷ ns) e ready zero place there =
          let first : bare b ≡ bare a = cc in
          subst (λ kind. kind_can_run kind t)
          (ap (λ (x : List ℕ × AppKind). x.1) (sym first) ∙ ap (λ (p : Place). p.kind) (the_same there))
          (ready 0 a refl)
      ready_bare t (a ∷ os) (b ∷ ns) e ready (suc i) place there =
          let rest : map bare ns ≡ map bare os = cc in ready_bare t os ns rest (λ j. ready (suc j)) i place there
