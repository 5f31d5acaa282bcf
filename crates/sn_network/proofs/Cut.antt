-- Sums that stand still at a greatest number.
use Rattle.std.proofs.Common.{List, arith, min, sum_by, ◌+◌, ◌∷◌, ◌≡◌, ◌≤◌, ℕ, [], ap}
use Rattle.std.proofs.lemmas.List.Sums.{sum_by-cons}

-- one more part, and two parts that were cut
pub cut_more : (m total part rest : ℕ) → min (min (total + part) m + rest) m ≡ min (total + (part + rest)) m
cut_more m total part rest = omega arith

pub cut_both : (m a b : ℕ) → min (min a m + min b m) m ≡ min (a + b) m
cut_both m a b = omega arith

-- a sum as far as it came, at most the greatest number, and what is left to add
pub record Adds {X : Type 0} (m : ℕ) (f : X → ℕ) (all left : List X) (total : ℕ) : Type 0 where
  pub most : total ≤ m
  pub sum : min (total + sum_by f left) m ≡ min (sum_by f all) m

module _ {X : Type 0} (m : ℕ) (f : X → ℕ) (all : List X) where
  pub adds_first : Adds m f all all 0
  adds_first = record { most = omega arith; sum = omega arith }

  pub adds_more : (x : X) (left : List X) (total later : ℕ) → Adds m f all (x ∷ left) total → later ≡ min (total + f x) m
      → Adds m f all left later
  adds_more x left total later h is =
      let s = sum_by-cons f x left in let e = h.sum in let cut = cut_more m total (f x) (sum_by f left) in
      record { most = omega (arith, is); sum = omega (arith, is, s, e, cut) }

  pub adds_last : (left : List X) (total : ℕ) → Adds m f all left total → left ≡ [] → total ≡ min (sum_by f all) m
  adds_last left total h none =
      let most = h.most in let e = h.sum in let s : sum_by f left ≡ 0 = ap (sum_by f) none in omega (arith, most, e, s)
