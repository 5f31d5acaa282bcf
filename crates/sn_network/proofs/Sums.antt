-- Sums over a list, and one of its elements.
use Rattle.std.proofs.Common.{◌≡◌, ◌≢◌, ℕ, zero, suc, ◌+◌, ◌<◌, ◌≤◌, List, [], ◌∷◌, length, remove, set, slice_get}
use Rattle.std.proofs.Common.{slice_index_or, sum_by, Some, refl, sym, ap, subst, arith}
use Rattle.std.proofs.lemmas.List.Sums.{sum_by-cons}

pub the_same : {X : Type 0} {x y : X} → Some x ≡ Some y → x ≡ y
the_same e = cc

module _ {X : Type 0} where
  pub get_within : (xs : List X) (i : ℕ) (x : X) → slice_get xs i ≡ Some x → i < length xs
  get_within [] i x e = absurd cc
  get_within (y ∷ ys) zero x e = omega arith
  get_within (y ∷ ys) (suc i) x e = omega (arith, get_within ys i x e)

  -- an element that is read by its place
  pub get_read : (xs : List X) (i : ℕ) (x : X) → i < length xs → x ≡ slice_index_or xs i x → slice_get xs i ≡ Some x
  get_read [] i x within e = absurd (omega (arith, within))
  get_read (y ∷ ys) zero x within e = ap Some (sym e)
  get_read (y ∷ ys) (suc i) x within e = get_read ys i x (omega (arith, within)) e

  -- the same through a slice of the list
  pub get_seen : (ys xs : List X) (i : ℕ) (x : X) → ys ≡ xs → i < length ys → x ≡ slice_index_or xs i x → slice_get xs i ≡ Some x
  get_seen ys xs i x same within e = get_read xs i x (subst (λ zs. i < length zs) same within) e

  pub get_set : (xs : List X) (i : ℕ) (x y : X) → slice_get xs i ≡ Some x → slice_get (set xs i y) i ≡ Some y
  get_set [] i x y e = absurd cc
  get_set (z ∷ zs) zero x y e = refl
  get_set (z ∷ zs) (suc i) x y e = get_set zs i x y e

  pub get_set_other : (xs : List X) (i j : ℕ) (y : X) → j ≢ i → slice_get (set xs i y) j ≡ slice_get xs j
  get_set_other [] i j y apart = refl
  get_set_other (z ∷ zs) zero zero y apart = absurd (apart refl)
  get_set_other (z ∷ zs) zero (suc j) y apart = refl
  get_set_other (z ∷ zs) (suc i) zero y apart = refl
  get_set_other (z ∷ zs) (suc i) (suc j) y apart = get_set_other zs i j y (λ e. apart (ap suc e))

  module _ (f : X → ℕ) where
    -- an element's part of the sum, and those of two
    pub one_within : (xs : List X) (i : ℕ) (x : X) → slice_get xs i ≡ Some x → f x ≤ sum_by f xs
    one_within [] i x e = absurd cc
    one_within (y ∷ ys) zero x e = let h : f y ≡ f x = ap f (the_same e) in let s = sum_by-cons f y ys in omega (arith, h, s)
    one_within (y ∷ ys) (suc i) x e = let h = one_within ys i x e in let s = sum_by-cons f y ys in omega (arith, h, s)

    pub two_within : (xs : List X) (i j : ℕ) (x y : X) → i ≢ j → slice_get xs i ≡ Some x → slice_get xs j ≡ Some y
        → f x + f y ≤ sum_by f xs
    two_within [] i j x y apart e g = absurd cc
    two_within (z ∷ zs) zero zero x y apart e g = absurd (apart refl)
    two_within (z ∷ zs) zero (suc j) x y apart e g =
        let h : f z ≡ f x = ap f (the_same e) in let k = one_within zs j y g in let s = sum_by-cons f z zs in
        omega (arith, h, k, s)
    two_within (z ∷ zs) (suc i) zero x y apart e g =
        let h : f z ≡ f y = ap f (the_same g) in let k = one_within zs i x e in let s = sum_by-cons f z zs in
        omega (arith, h, k, s)
    two_within (z ∷ zs) (suc i) (suc j) x y apart e g =
        let h = two_within zs i j x y (λ s. apart (ap suc s)) e g in let s = sum_by-cons f z zs in omega (arith, h, s)

    -- one element in place of another
    pub sum_set : (xs : List X) (i : ℕ) (x y : X) → slice_get xs i ≡ Some x → sum_by f (set xs i y) + f x ≡ sum_by f xs + f y
    sum_set [] i x y e = absurd cc
    sum_set (z ∷ zs) zero x y e =
        let h : f z ≡ f x = ap f (the_same e) in let s = sum_by-cons f z zs in let k = sum_by-cons f y zs in
        omega (arith, h, s, k)
    sum_set (z ∷ zs) (suc i) x y e =
        let h = sum_set zs i x y e in let s = sum_by-cons f z zs in let k = sum_by-cons f z (set zs i y) in omega (arith, h, s, k)

    -- one element gone
    pub sum_remove : (xs : List X) (i : ℕ) (x : X) → slice_get xs i ≡ Some x → sum_by f (remove xs i) + f x ≡ sum_by f xs
    sum_remove [] i x e = absurd cc
    sum_remove (z ∷ zs) zero x e = let h : f z ≡ f x = ap f (the_same e) in let s = sum_by-cons f z zs in omega (arith, h, s)
    sum_remove (z ∷ zs) (suc i) x e =
        let h = sum_remove zs i x e in let s = sum_by-cons f z zs in let k = sum_by-cons f z (remove zs i) in
        omega (arith, h, s, k)

  -- what is left was there
  pub get_removed : (xs : List X) (i j : ℕ) (x : X) (goal : Type 0) → slice_get (remove xs i) j ≡ Some x
      → ((k : ℕ) → slice_get xs k ≡ Some x → goal) → goal
  get_removed [] i j x goal e then = then j (nothing i j e)
    where
      nothing : (i j : ℕ) → slice_get (remove {X = X} [] i) j ≡ Some x → slice_get {X = X} [] j ≡ Some x
      nothing zero j e = e
      nothing (suc i) j e = e
  get_removed (z ∷ zs) zero j x goal e then = then (suc j) e
  get_removed (z ∷ zs) (suc i) zero x goal e then = then zero e
  get_removed (z ∷ zs) (suc i) (suc j) x goal e then = get_removed zs i j x goal e (λ k. then (suc k))
