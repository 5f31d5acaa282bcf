-- What stood in a list still stands at its front.
use Rattle.std.proofs.Common.{List, [], ap, arith, length, min, refl, suc, sym, take, zero, ℕ, ◌++◌, ◌∙◌, ◌∷◌, ◌≡◌, ◌≤◌}
use Rattle.std.proofs.lemmas.List.{append-nil, length-take, take-append-le}
use Rattle.std.proofs.Math.Seq.{take-append_seam}

fits_in : (old now : List ℕ) → take (length old) now ≡ old → length old ≤ length now
fits_in old now kept =
    let size : min (length old) (length now) ≡ length old = sym (length-take (length old) now) ∙ ap length kept in
    omega (arith, size)

-- all of it does, where nothing came behind it
pub kept_first : (old : List ℕ) → take (length old) old ≡ old
kept_first old = ap (take (length old)) (sym (append-nil old)) ∙ take-append_seam old []

-- more behind it changes nothing
pub kept_behind : (old now more : List ℕ) → take (length old) now ≡ old → take (length old) (now ++ more) ≡ old
kept_behind old now more kept = take-append-le (length old) now more (fits_in old now kept) ∙ kept

take_twice : (m n : ℕ) (xs : List ℕ) → m ≤ n → take m (take n xs) ≡ take m xs
take_twice zero n xs less = refl
take_twice (suc m) zero xs less = absurd (omega arith)
take_twice (suc m) (suc n) [] less = refl
take_twice (suc m) (suc n) (x ∷ xs) less = ap (λ ys. x ∷ ys) (take_twice m n xs (omega arith))

-- nor does what keeps that in its turn
pub kept_on : (old now next : List ℕ) → take (length old) now ≡ old → take (length now) next ≡ now
    → take (length old) next ≡ old
kept_on old now next kept further =
    sym (take_twice (length old) (length now) next (fits_in old now kept)) ∙ ap (take (length old)) further ∙ kept

pub ruleset kept_front = (kept_first, kept_behind, kept_on)
