-- Parts of a list.
use Rattle.std.proofs.Common.{◌≡◌, ℕ, zero, suc, ◌+◌, ◌-◌, ◌<◌, ◌≤◌, List, [], ◌∷◌, ◌++◌, drop, get_or, length, min, take}
use Rattle.std.proofs.Common.{Some, refl, sym, ap, ◌∙◌, arith, slice_get, slice_range}
use Rattle.std.proofs.Math.Seq.{take-suc}
use Rattle.std.proofs.lemmas.List.{get_or-drop, get_or-take, length-drop, length-take}

-- one element more
pub take_more : {A : Type 0} (xs : List A) (i : ℕ) (d : A) → i < length xs → take (i + 1) xs ≡ take i xs ++ get_or xs i d ∷ []
take_more xs i d within = let same : i + 1 ≡ suc i = omega arith in ap (λ n. take n xs) same ∙ take-suc xs i d within

-- a front, and then so many more
pub take_taken : {A : Type 0} (xs : List A) (n m : ℕ) → n ≤ length xs → take (n + m) xs ≡ take n xs ++ take m (drop n xs)
take_taken xs zero m within = let same : zero + m ≡ m = omega arith in ap (λ k. take k xs) same
take_taken [] (suc n) m within = absurd (omega (arith, within))
take_taken (x ∷ xs) (suc n) m within =
    let same : suc n + m ≡ suc (n + m) = omega arith in
    ap (λ k. take k (x ∷ xs)) same ∙ ap (λ ys. x ∷ ys) (take_taken xs n m (omega (arith, within)))

-- a part with one element more, and one that has none
pub range_more : {A : Type 0} (xs : List A) (from to : ℕ) (d : A) → from ≤ to → to < length xs
    → slice_range xs from (to + 1) ≡ slice_range xs from to ++ get_or xs to d ∷ []
range_more xs from to d order within =
    let inside : to - from < length (drop from xs) = let l = length-drop from xs in omega (arith, order, within, l) in
    let same : to + 1 - from ≡ (to - from) + 1 = omega (arith, order) in
    let there : from + (to - from) ≡ to = omega (arith, order) in
    ap (λ n. take n (drop from xs)) same
    ∙ (take_more (drop from xs) (to - from) d inside
    ∙ ap (λ x. slice_range xs from to ++ x ∷ []) (get_or-drop from xs (to - from) d ∙ ap (λ i. get_or xs i d) there))

pub range_none : {A : Type 0} (xs : List A) (at : ℕ) → slice_range xs at at ≡ []
range_none xs at = let none : at - at ≡ 0 = omega arith in ap (λ n. take n (drop at xs)) none

-- an element of a part
get_taken : {A : Type 0} (xs : List A) (n i : ℕ) (x : A) → slice_get (take n xs) i ≡ Some x → slice_get xs i ≡ Some x
get_taken xs zero i x e = absurd cc
get_taken [] (suc n) i x e = e
get_taken (y ∷ xs) (suc n) zero x e = e
get_taken (y ∷ xs) (suc n) (suc i) x e = get_taken xs n i x e

get_dropped : {A : Type 0} (xs : List A) (n i : ℕ) → slice_get (drop n xs) i ≡ slice_get xs (n + i)
get_dropped xs zero i = let same : i ≡ zero + i = omega arith in ap (slice_get xs) same
get_dropped [] (suc n) i = refl
get_dropped (y ∷ xs) (suc n) i =
    let same : suc n + i ≡ suc (n + i) = omega arith in get_dropped xs n i ∙ sym (ap (slice_get (y ∷ xs)) same)

pub in_range : {A : Type 0} (xs : List A) (from to i : ℕ) (x : A) → slice_get (slice_range xs from to) i ≡ Some x
    → slice_get xs (from + i) ≡ Some x
in_range xs from to i x e = sym (get_dropped xs from i) ∙ get_taken (drop from xs) (to - from) i x e

-- the next of the actions that a turn takes
pub next_one : {A : Type 0} (plan now : List A) (due first taken i : ℕ) (d : A) → now ≡ plan → taken ≡ first + i
    → i < length (take (min 4 (due - first)) (drop first plan))
    → get_or now taken d ≡ get_or (take (min 4 (due - first)) (drop first plan)) i d
next_one plan now due first taken i d same at within =
    let inside : i < min 4 (due - first) =
    let l = length-take (min 4 (due - first)) (drop first plan) in omega (arith, within, l) in
    ap (λ xs. get_or xs taken d) same
    ∙ (ap (λ n. get_or plan n d) at
    ∙ (sym (get_or-drop first plan i d) ∙ sym (get_or-take (min 4 (due - first)) (drop first plan) i d inside)))
