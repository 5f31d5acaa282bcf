-- Sums over slots that are equal place by place.
use Rattle.std.proofs.Common.{◌≡◌, ◌≢◌, ℕ, suc, ◌+◌, ◌<◌, List, [], ◌∷◌, length, get_or, set, Option, Some, None, refl, sym, ap, ◌∙◌, inl, inr, arith, get_or-set_same, get_or-set_other, sum_by}
use Rattle.std.proofs.lemmas.Bool.{cases_eq}
use Rattle.std.proofs.lemmas.List.{get_or_past}
use Rattle.std.proofs.lemmas.List.Sums.{sum_by-cons, sum_by-set}

module _ {X : Type 0} where
  -- what stands at an index is within the list
  pub some_within : (slots : List (Option X)) (k : ℕ) (x : X) → get_or slots k None ≡ Some x → k < length slots
  some_within slots k x found = grind (arith, get_or_past)

  -- equal place by place, where nothing weighs nothing
  pub sum_by-same : (w : Option X → ℕ) → w None ≡ 0 → (xs ys : List (Option X)) → ((k : ℕ) → get_or ys k None ≡ get_or xs k None) → sum_by w ys ≡ sum_by w xs
  sum_by-same w nothing [] [] same = refl
  sum_by-same w nothing [] (y ∷ ys) same =
      omega (arith, sum_by-cons w y ys, ap w (same 0), nothing, sum_by-same w nothing [] ys (λ k. same (suc k)))
  sum_by-same w nothing (x ∷ xs) [] same =
      omega (arith, sum_by-cons w x xs, ap w (same 0), nothing, sum_by-same w nothing xs [] (λ k. same (suc k)))
  sum_by-same w nothing (x ∷ xs) (y ∷ ys) same =
      omega (arith, sum_by-cons w x xs, sum_by-cons w y ys, ap w (same 0), sum_by-same w nothing xs ys (λ k. same (suc k)))

  -- one place that had nothing gets something
  pub sum_by-filled : (w : Option X → ℕ) → w None ≡ 0 → (xs ys : List (Option X)) (k : ℕ) (x : X) → get_or xs k None ≡ None → get_or ys k None ≡ Some x → ((j : ℕ) → j ≢ k → get_or ys j None ≡ get_or xs j None) → sum_by w ys ≡ sum_by w xs + w (Some x)
  sum_by-filled w nothing xs ys k x empty filled others =
      let within = some_within ys k x filled in
      let emptied : (j : ℕ) → get_or (set ys k None) j None ≡ get_or xs j None =
      λ j. elim (cases_eq j k) [
        | inl same ↦ ap (λ i. get_or (set ys k None) i None) same ∙ get_or-set_same ys k None None within ∙ sym empty ∙ ap (λ i. get_or xs i None) (sym same)
        | inr differs ↦ get_or-set_other ys k j None None differs ∙ others j differs
      ] in
      omega (arith, sum_by-set w ys k None None within, sum_by-same w nothing xs (set ys k None) emptied, ap w filled, nothing)
