-- The actions up to the last commit, where one more comes.
use Rattle.std.proofs.Common.{◌≡◌, Bool, true, false, cond, List, [], ◌∷◌, ◌++◌, ◌||◌, refl, ap, ◌∙◌}
use Rattle.std.specs.List.{list_any}
use Rattle.sn_actions.specs.declared.action.Action.{Action}
use Rattle.sn_scenario.specs.PlanLaws.{committed, is_commit}

or_true : (b : Bool) → (b || true) ≡ true
or_true true = refl
or_true false = refl

any_end : (xs : List Action) (a : Action) → is_commit a ≡ true → list_any is_commit (xs ++ a ∷ []) ≡ true
any_end [] a e = ap (λ b. b || false) e
any_end (x ∷ xs) a e = ap (λ b. is_commit x || b) (any_end xs a e) ∙ or_true (is_commit x)

any_same : (xs : List Action) (a : Action) → is_commit a ≡ false → list_any is_commit (xs ++ a ∷ []) ≡ list_any is_commit xs
any_same [] a e = ap (λ b. b || false) e
any_same (x ∷ xs) a e = ap (λ b. is_commit x || b) (any_same xs a e)

-- a commit comes: all of them
pub commit_cuts : (xs : List Action) (a : Action) → is_commit a ≡ true → committed (xs ++ a ∷ []) ≡ xs ++ a ∷ []
commit_cuts [] a e = ap (λ b. cond (b || false) (a ∷ []) []) e
commit_cuts (x ∷ xs) a e =
    ap (λ b. cond (is_commit x || b) (x ∷ committed (xs ++ a ∷ [])) []) (any_end xs a e)
    ∙ (ap (λ b. cond b (x ∷ committed (xs ++ a ∷ [])) []) (or_true (is_commit x))
    ∙ ap (λ ys. x ∷ ys) (commit_cuts xs a e))

-- another action comes: the same ones
pub wait_cuts : (xs : List Action) (a : Action) → is_commit a ≡ false → committed (xs ++ a ∷ []) ≡ committed xs
wait_cuts [] a e = ap (λ b. cond (b || false) (a ∷ []) []) e
wait_cuts (x ∷ xs) a e =
    ap (λ b. cond (is_commit x || b) (x ∷ committed (xs ++ a ∷ [])) []) (any_same xs a e)
    ∙ ap (λ ys. cond (is_commit x || list_any is_commit xs) (x ∷ ys) []) (wait_cuts xs a e)
