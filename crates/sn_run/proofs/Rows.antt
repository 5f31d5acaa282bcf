-- Files row by row, packets worker by worker, and journals one after another.
use Rattle.std.proofs.Common.{◌≡◌, ℕ, List, [], ◌∷◌, ◌++◌, Option, Some, None, drop, length, suc, option_to_list, refl, sym, ap}
use Rattle.std.proofs.Common.{◌∙◌, arith}
use Rattle.std.proofs.lemmas.List.{append_assoc}
use Rattle.sn_run.specs.Replay.{first_of, over}

over_none : (rows : List (Option (List ℕ))) → over rows [] ≡ rows
over_none [] = refl
over_none (row ∷ rows) = refl

no_shorter : (rows : List (Option (List ℕ))) (row : Option (List ℕ)) → row ∷ rows ≡ rows → ⊥
no_shorter rows row e = let h : suc (length rows) ≡ length rows = ap length e in omega (arith, h)

-- one row is taken from the front of both
over_front : (file : Option (List ℕ)) (other : Option (Option (List ℕ)))
    (files others left : List (Option (List ℕ))) → others ≡ option_to_list other ++ left → left ≡ drop 1 others
    → over (file ∷ files) others ≡ first_of file other ∷ over files left
over_front file (Some other) files others left e d = rw e refl
over_front file None files [] left e d = rw (sym e) (ap (λ l. file ∷ l) (sym (over_none files)))
over_front file None files (other ∷ others) left e d = absurd (no_shorter others other (e ∙ d))

pub over_more : (so_far before all files others left : List (Option (List ℕ))) (file : Option (List ℕ))
    (other : Option (Option (List ℕ))) → so_far ++ over before others ≡ all
    → before ≡ file ∷ files → others ≡ option_to_list other ++ left → left ≡ drop 1 others
    → (so_far ++ first_of file other ∷ []) ++ over files left ≡ all
over_more so_far before all files others left file other is b e d =
    append_assoc so_far (first_of file other ∷ []) (over files left)
    ∙ ap (λ l. so_far ++ l) (sym (over_front file other files others left e d) ∙ ap (λ l. over l others) (sym b)) ∙ is
