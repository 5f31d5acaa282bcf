-- Of elements that a loop goes over, what it did already, and what it is still to do.
use Rattle.std.proofs.Common.{◌≡◌, ◌≢◌, ◌⊎◌, ◌+◌, ◌≤◌, ◌<◌, ℕ, zero, suc, List, [], ◌∷◌, Some, inl, inr, refl, sym, ap, subst}
use Rattle.std.proofs.Common.{arith}
use Rattle.std.proofs.Common.{◌++◌, ◌∙◌, drop, length, take}
use Rattle.std.specs.Prelude.{slice_get, slice_set}
use Rattle.std.proofs.lemmas.List.{append-nil, drop_all, take_all}
use Rattle.sn_crew.specs.Crews.{EachAt}

-- something holds of those below this number, or of those from it on
abbrev pub Below : {A : Type 0} → (ℕ → A → Type 0) → ℕ → List A → Type 0
Below {A} holds k xs = (n : ℕ) (x : A) → slice_get xs n ≡ Some x → n < k → holds n x

abbrev pub From : {A : Type 0} → (ℕ → A → Type 0) → ℕ → List A → Type 0
From {A} holds k xs = (n : ℕ) (x : A) → slice_get xs n ≡ Some x → k ≤ n → holds n x

-- what stands at k after a write at i
written : {A : Type 0} (xs : List A) (i k : ℕ) (y z : A) → slice_get (slice_set xs i y) k ≡ Some z
    → ((k ≡ i) × (z ≡ y)) ⊎ ((k ≢ i) × (slice_get xs k ≡ Some z))
written {A} [] i k y z at = inr ((λ same. let h : slice_get {X = A} [] k ≡ Some z = at in absurd cc), at)
written (x ∷ xs) zero zero y z at = inl (refl, (let e : Some y ≡ Some z = at in cc))
written (x ∷ xs) zero (suc k) y z at = inr ((λ same. omega (arith, same)), at)
written (x ∷ xs) (suc i) zero y z at = inr ((λ same. omega (arith, same)), at)
written (x ∷ xs) (suc i) (suc k) y z at = elim (written xs i k y z at) [
  | inl same ↦ inl (ap suc same.0, same.1)
  | inr other ↦ inr ((λ same. other.0 (omega (arith, same))), other.1)
]

below : (n worker : ℕ) → n < worker + 1 → n ≢ worker → n < worker
below zero zero lt differ = absurd (differ refl)
below zero (suc worker) lt differ = omega (arith)
below (suc n) zero lt differ = absurd (omega (arith, lt))
below (suc n) (suc worker) lt differ =
    let h : n < worker = below n worker (omega (arith, lt)) (λ e. differ (ap suc e)) in omega (arith, h)

module _ {A : Type 0} (holds : ℕ → A → Type 0) (i : ℕ) (xs : List A) (new : A) where
  pub done_more : Below holds i xs → holds i new → Below holds (i + 1) (slice_set xs i new)
  done_more done now n x at lt = elim (written xs i n new x at) [
    | inl same ↦ subst (λ k. holds k x) (sym same.0) (subst (holds i) (sym same.1) now)
    | inr other ↦ done n x other.1 (below n i lt other.0)
  ]

  pub still_to_do : From holds i xs → From holds (i + 1) (slice_set xs i new)
  still_to_do todo n x at le = elim (written xs i n new x at) [
    | inl same ↦ absurd (omega (arith, le, same.0))
    | inr other ↦ todo n x other.1 (omega (arith, le))
  ]

-- of no elements anything holds
pub none_there : {A : Type 0} (holds : ℕ → A → Type 0) → EachAt holds []
none_there {A} holds n x there = let h : slice_get {X = A} [] n ≡ Some x = there in absurd cc

-- a vector's elements, where all of them were written
pub all_written : {A : Type 0} (n : ℕ) (old new : List A) → n ≡ length old → length new ≡ length old
    → take n (new ++ drop (length new) old) ≡ new
all_written n old new e f =
    ap (λ ys. take n (new ++ ys)) (drop_all (length new) old (omega (arith, f)))
    ∙ (ap (take n) (append-nil new) ∙ take_all n new (omega (arith, e, f)))
