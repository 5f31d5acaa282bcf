-- The longest front of bytes that pass, by its length.
use Rattle.std.proofs.Common.{Bool, List, [], ap, arith, cond, drop, false, refl, take, true, ℕ, ◌+◌, ◌∙◌, ◌∷◌, ◌≡◌, suc}
use Rattle.std.specs.List.{prefix_len}
use Rattle.sn_scenario.specs.Cutting.{behind, front}

one_more : (n : ℕ) → 1 + n ≡ suc n
one_more n = omega arith

take_by : (b : Bool) (x : ℕ) (xs more : List ℕ) (n : ℕ) → take n xs ≡ more → take (cond b (1 + n) 0) (x ∷ xs) ≡ cond b (x ∷ more) []
take_by true x xs more n e = ap (λ k. take k (x ∷ xs)) (one_more n) ∙ ap (λ ys. x ∷ ys) e
take_by false x xs more n e = refl

pub take_front : (p : ℕ → Bool) (xs : List ℕ) → take (prefix_len p xs) xs ≡ front p xs
take_front p [] = refl
take_front p (x ∷ xs) = take_by (p x) x xs (front p xs) (prefix_len p xs) (take_front p xs)

drop_by : (b : Bool) (x : ℕ) (xs more : List ℕ) (n : ℕ) → drop n xs ≡ more → drop (cond b (1 + n) 0) (x ∷ xs) ≡ cond b more (x ∷ xs)
drop_by true x xs more n e = ap (λ k. drop k (x ∷ xs)) (one_more n) ∙ e
drop_by false x xs more n e = refl

pub drop_front : (p : ℕ → Bool) (xs : List ℕ) → drop (prefix_len p xs) xs ≡ behind p xs
drop_front p [] = refl
drop_front p (x ∷ xs) = drop_by (p x) x xs (behind p xs) (prefix_len p xs) (drop_front p xs)

pub ruleset fronts = (take_front, drop_front)
