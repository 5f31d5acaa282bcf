-- Counts of the links that lead to each app, taken link by link.
use Rattle.std.proofs.Common.{List, ap, arith, cond, drop, false, get_or, length, nat_eq, refl, subst, suc, sym, true, Bool, ℕ, ◌+◌, ◌<◌, ◌≤◌, ◌∙◌, ◌∷◌, ◌≡◌, count_by, slice_index, slice_set}
use Rattle.std.proofs.Math.Seq.{drop-cons}
use Rattle.std.proofs.lemmas.Bool.{eqb-true, eq-eqb, true≢false}
use Rattle.std.proofs.lemmas.List.{get_or-set_other, get_or-set_same}
use Rattle.std.proofs.lemmas.List.Sums.{sum_by-cons}

abbrev pub one_if : Bool → ℕ
one_if b = cond b 1 0

pub one_at_most : (b : Bool) → one_if b ≤ 1
one_at_most true = omega arith
one_at_most false = omega arith

-- the first of those that are left
pub first_counted : {X : Type 0} (p : X → Bool) (xs : List X) (i : ℕ) (d : X) → i < length xs
    → count_by p (drop i xs) ≡ one_if (p (get_or xs i d)) + count_by p (drop (i + 1) xs)
first_counted p xs i d l =
    ap (count_by p) (drop-cons xs i d l ∙ ap (λ j. get_or xs i d ∷ drop j xs) (let e : suc i ≡ i + 1 = omega arith in e))
    ∙ sum_by-cons (λ x. cond (p x) 1 0) (get_or xs i d) (drop (i + 1) xs)

-- the count of one app was raised
pub raised_by : (counts : List ℕ) (to n : ℕ) → to < length counts → n ≡ slice_index counts to
    → (app : ℕ) → slice_index (slice_set counts to (n + 1)) app ≡ slice_index counts app + one_if (nat_eq to app)
raised_by counts to n l is app = by (nat_eq to app) refl
  where
    by : (b : Bool) → nat_eq to app ≡ b → slice_index (slice_set counts to (n + 1)) app ≡ slice_index counts app + one_if b
    by true e =
        subst (λ a. slice_index (slice_set counts to (n + 1)) a ≡ slice_index counts a + 1) (eqb-true to app e)
        (get_or-set_same counts to (n + 1) 0 l ∙ ap (λ k. k + 1) is)
    by false e =
        let same : slice_index (slice_set counts to (n + 1)) app ≡ slice_index counts app =
        get_or-set_other counts to app (n + 1) 0 (λ i. true≢false (sym (eq-eqb to app (sym i)) ∙ e)) in
        omega (arith, same)
