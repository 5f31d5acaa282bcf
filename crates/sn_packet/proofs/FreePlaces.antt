-- Free places: each is held and stands once, so they are no more than the held places.
use Rattle.std.proofs.Common.{◌≡◌, ◌≢◌, ℕ, zero, suc, ◌+◌, ◌<◌, ◌≤◌, ◌==◌, cond, List, [], ◌∷◌, ◌++◌, length, get_or, set, Option, Some, None, is_some, IsSome, refl, sym, ap, subst, ◌∙◌, inl, inr, arith, rules, get_or-set_other, count_by}
use Rattle.std.proofs.lemmas.Bool.{cases_eq, eq-eqb}
use Rattle.std.proofs.lemmas.Bool.Decides.{eqb_tells}
use Rattle.std.proofs.lemmas.List.Sums.{sum_by-cons, sum_by-set, sum_by_push}
use Rattle.sn_packet.specs.Hold.{among, one_if}
use Rattle.sn_packet.proofs.SlotSums.{some_within}

-- how often a place stands in a list that begins with it, or with another
pub among_first : (place : ℕ) (places : List ℕ) → among (place ∷ places) place ≡ 1 + among places place
among_first place places =
    sum_by-cons (λ other. cond (other == place) 1 0) place places
    ∙ ap (λ b. cond b 1 0 + among places place) (eq-eqb place place refl)

pub among_other : (first place : ℕ) (places : List ℕ) → first ≢ place → among (first ∷ places) place ≡ among places place
among_other first place places differs =
    elim (eqb_tells first place) [
      | inl same ↦ absurd (differs same.1)
      | inr apart ↦
          omega (
            arith,
            sum_by-cons (λ other. cond (other == place) 1 0) first places
                ∙ ap (λ b. cond b 1 0 + among places place) apart.0,
          )
    ]

-- the place that stands last stands there once more
pub among_last : (place : ℕ) (places : List ℕ) → among (places ++ place ∷ []) place ≡ among places place + 1
among_last place places =
    sum_by_push (λ other. cond (other == place) 1 0) places place
    ∙ ap (λ b. among places place + cond b 1 0) (eq-eqb place place refl)

pub among_last_other : (last place : ℕ) (places : List ℕ) → last ≢ place → among (places ++ last ∷ []) place ≡ among places place
among_last_other last place places differs =
    elim (eqb_tells last place) [
      | inl same ↦ absurd (differs same.1)
      | inr apart ↦
          omega (
            arith,
            sum_by_push (λ other. cond (other == place) 1 0) places last
                ∙ ap (λ b. among places place + cond b 1 0) apart.0,
          )
    ]

module _ {X : Type 0} where
  -- one at most is held at a place
  pub one_if-least : (slot : Option X) → one_if slot ≤ 1
  one_if-least None = omega arith
  one_if-least (Some x) = omega arith

  held_where_one : (slot : Option X) → 1 ≤ one_if slot → (x : X) × (slot ≡ Some x)
  held_where_one None one = absurd (omega (arith, one))
  held_where_one (Some x) one = (x, refl)

  -- places that are held and stand once are no more than what is held
  pub few_free : (slots : List (Option X)) (places : List ℕ) → ((place : ℕ) → among places place ≤ one_if (get_or slots place None)) → length places ≤ count_by is_some slots
  few_free slots [] once = omega arith
  few_free slots (place ∷ places) once =
      let first = among_first place places in
      let here = held_where_one (get_or slots place None) (omega (arith, first, once place)) in
      let within = some_within slots place here.0 here.1 in
      let rest : (other : ℕ) → among places other ≤ one_if (get_or (set slots place None) other None) =
      λ other. elim (cases_eq other place) [
        | inl same ↦
            let none : among places place ≤ 0 = omega (arith, first, once place, one_if-least (get_or slots place None)) in
            subst (λ p. among places p ≤ one_if (get_or (set slots place None) p None)) (sym same) (omega (arith, none))
        | inr differs ↦
            let left : among (place ∷ places) other ≡ among places other = among_other place other places (λ e. differs (sym e)) in
            let right : get_or (set slots place None) other None ≡ get_or slots other None = get_or-set_other slots place other None None differs in
            omega (arith, left, once other, ap one_if right)
      ] in
      let fewer = few_free (set slots place None) places rest in
      omega (arith, fewer, sum_by-set (λ o. cond (is_some o) 1 0) slots place None None within, ap {B = ℕ} (λ o. cond (is_some o) 1 0) here.1)

  -- so one that is held and isn't among them is one more
  pub fewer_free : (slots : List (Option X)) (places : List ℕ) (place : ℕ) → ((other : ℕ) → among places other ≤ one_if (get_or slots other None)) → among places place ≡ 0 → IsSome (get_or slots place None) → length places < count_by is_some slots
  fewer_free slots places place once unlisted held =
      few_free slots (place ∷ places)
      (λ other. elim (cases_eq other place) [
        | inl same ↦ subst (λ p. among (place ∷ places) p ≤ one_if (get_or slots p None)) (sym same) (omega (arith, among_first place places, unlisted, one_where_held (get_or slots place None) held))
        | inr differs ↦ omega (arith, among_other place other places (λ e. differs (sym e)), once other)
      ])
    where
      one_where_held : (slot : Option X) → IsSome slot → 1 ≤ one_if slot
      one_where_held None held = absurd (search rules)
      one_where_held (Some x) held = omega arith

-- a place that is used is held, and isn't free
pub used_is_unlisted : {X : Type 0} (count : ℕ) (slot : Option X) → IsSome (cond (count == 0) slot None) → count ≡ 0
used_is_unlisted zero slot used = refl
used_is_unlisted (suc count) slot used = absurd (search rules)

pub used_is_held : {X : Type 0} (count : ℕ) (slot : Option X) → IsSome (cond (count == 0) slot None) → IsSome slot
used_is_held zero slot used = used
used_is_held (suc count) slot used = absurd (search rules)
