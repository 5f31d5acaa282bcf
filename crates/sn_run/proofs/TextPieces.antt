-- A text taken piece by piece.
use Rattle.std.proofs.Common.{◌≡◌, ℕ, ◌+◌, ◌-◌, ◌≤◌, List, ◌++◌, length, take, drop, sym, ap, ◌∙◌, arith, append_assoc}
use Rattle.std.proofs.Common.{length-drop}
use Rattle.std.proofs.lemmas.List.{take_all}
use Rattle.std.proofs.Math.Seq.{take-add}

-- a piece more of the text is taken
pub piece_more : (before taken now text : List ℕ) (at n : ℕ) → n ≤ length (take (length text - at) (drop at text))
    → taken ≡ before ++ take at text → now ≡ taken ++ take n (take (length text - at) (drop at text))
    → now ≡ before ++ take (at + n) text
piece_more before taken now text at n within so_far piece =
    piece
    ∙ ap (λ (p : List ℕ). taken ++ take n p) (take_all _ _ (omega (arith, length-drop at text)))
    ∙ ap (λ (t : List ℕ). t ++ take n (drop at text)) so_far
    ∙ append_assoc before (take at text) (take n (drop at text))
    ∙ ap (λ (t : List ℕ). before ++ t) (sym (take-add at n text))

-- and it ends within the text
pub piece_within : (text : List ℕ) (at n : ℕ) → at ≤ length text → n ≤ length (take (length text - at) (drop at text))
    → at + n ≤ length text
piece_within text at n before within =
    omega
    (arith, length-drop at text, ap length (take_all (length text - at) (drop at text) (omega (arith, length-drop at text))))
