-- A worker's configurations, one after another.
use Rattle.std.proofs.Common.{Bool, List, [], add-one, ap, append_assoc, arith, cond, drop, drop-cons, false, filter, get_or, length, nat_le, refl, suc, sym, true, zero, ℕ, ◌+◌, ◌++◌, ◌<◌, ◌≤◌, ◌∙◌, ◌∷◌, ◌≡◌}
use Rattle.sn_actions.specs.declared.action.Action.{Action}
use Rattle.sn_config.specs.Configs.{ConfigForm}
use Rattle.sn_scenario.specs.Plans.{change_of, due_after, plan_after}
use Rattle.sn_scenario.specs.declared.placed.Placed.{Placed}

-- an element and what follows it
pub next_cut : {A : Type 0} (xs : List A) (i : ℕ) (x : A) → i < length xs → x ≡ get_or xs i x → drop i xs ≡ x ∷ drop (i + 1) xs
next_cut xs i x within is =
    drop-cons xs i x within ∙ ap (λ y. y ∷ drop (suc i) xs) (sym is) ∙ ap (λ k. x ∷ drop k xs) (sym (add-one i))

abbrev kept_by : Placed → List Placed → Bool → List Placed
kept_by x more keeps = cond keeps (x ∷ more) more

-- a configuration that is kept, and one that isn't
pub kept_next : (p : Placed → Bool) (xs : List Placed) (i : ℕ) (x : Placed) → i < length xs → x ≡ get_or xs i x → p x ≡ true → filter p (drop i xs) ≡ x ∷ filter p (drop (i + 1) xs)
kept_next p xs i x within is taken =
    ap (filter p) (next_cut xs i x within is) ∙ ap (kept_by x (filter p (drop (i + 1) xs))) taken

pub kept_skip : (p : Placed → Bool) (xs : List Placed) (i : ℕ) (x : Placed) → i < length xs → x ≡ get_or xs i x → p x ≡ false → filter p (drop i xs) ≡ filter p (drop (i + 1) xs)
kept_skip p xs i x within is left =
    ap (filter p) (next_cut xs i x within is) ∙ ap (kept_by x (filter p (drop (i + 1) xs))) left

pub plan-cons : (before : ConfigForm) (x : Placed) (more : List Placed) → plan_after before (x ∷ more) ≡ change_of before x.config ++ plan_after x.config more
unfolding plan_after
plan-cons before x more = refl

due-cons : (round : ℕ) (before : ConfigForm) (x : Placed) (more : List Placed) → due_after round before (x ∷ more) ≡ cond (nat_le x.round round) (length (change_of before x.config)) 0 + due_after round x.config more
unfolding due_after
due-cons round before x more = refl

pub plan-nil : (before : ConfigForm) → plan_after before [] ≡ []
unfolding plan_after
plan-nil before = refl

pub due-nil : (round : ℕ) (before : ConfigForm) → due_after round before [] ≡ 0
unfolding due_after
due-nil round before = refl

due_sum : (all due now this rest next after : ℕ) → all ≡ due + rest → now ≡ due + this → rest ≡ this + next → after ≡ next → all ≡ now + after
due_sum all due now this rest next after e m s n = omega arith

due_none : (all due rest : ℕ) → all ≡ due + rest → rest ≡ 0 → due ≡ all
due_none all due rest e n = omega arith

-- the actions of the next configuration, and those of the rest
pub plan_turn : (p : Placed → Bool) (xs : List Placed) (i : ℕ) (x : Placed) (before after : ConfigForm) (all made more : List Action) → i < length xs → x ≡ get_or xs i x → p x ≡ true → all ≡ made ++ plan_after before (filter p (drop i xs)) → more ≡ made ++ change_of before x.config → after ≡ x.config → all ≡ more ++ plan_after after (filter p (drop (i + 1) xs))
plan_turn p xs i x before after all made more within is taken e m n =
    e
    ∙ ap (λ kept. made ++ plan_after before kept) (kept_next p xs i x within is taken)
    ∙ ap (λ actions. made ++ actions) (plan-cons before x (filter p (drop (i + 1) xs)))
    ∙ sym (append_assoc made (change_of before x.config) (plan_after x.config (filter p (drop (i + 1) xs))))
    ∙ ap (λ actions. actions ++ plan_after x.config (filter p (drop (i + 1) xs))) (sym m)
    ∙ ap (λ config. more ++ plan_after config (filter p (drop (i + 1) xs))) (sym n)

pub plan_skip : (p : Placed → Bool) (xs : List Placed) (i : ℕ) (x : Placed) (before after : ConfigForm) (all made more : List Action) → i < length xs → x ≡ get_or xs i x → p x ≡ false → all ≡ made ++ plan_after before (filter p (drop i xs)) → more ≡ made → after ≡ before → all ≡ more ++ plan_after after (filter p (drop (i + 1) xs))
plan_skip p xs i x before after all made more within is left e m n =
    e
    ∙ ap (λ kept. made ++ plan_after before kept) (kept_skip p xs i x within is left)
    ∙ ap (λ actions. actions ++ plan_after before (filter p (drop (i + 1) xs))) (sym m)
    ∙ ap (λ config. more ++ plan_after config (filter p (drop (i + 1) xs))) (sym n)

-- how many of them are due
pub due_turn : (p : Placed → Bool) (xs : List Placed) (i round : ℕ) (x : Placed) (before after : ConfigForm) (all due now : ℕ) → i < length xs → x ≡ get_or xs i x → p x ≡ true → all ≡ due + due_after round before (filter p (drop i xs)) → now ≡ due + cond (nat_le x.round round) (length (change_of before x.config)) 0 → after ≡ x.config → all ≡ now + due_after round after (filter p (drop (i + 1) xs))
due_turn p xs i round x before after all due now within is taken e m n =
    let rest = filter p (drop (i + 1) xs) in
    let this = cond (nat_le x.round round) (length (change_of before x.config)) 0 in
    let step : due_after round before (filter p (drop i xs)) ≡ this + due_after round x.config rest =
    ap (due_after round before) (kept_next p xs i x within is taken) ∙ due-cons round before x rest
    in
    let same : due_after round after rest ≡ due_after round x.config rest = ap (λ config. due_after round config rest) n in
    due_sum all due now this (due_after round before (filter p (drop i xs))) (due_after round x.config rest) (due_after round after rest) e m step same

pub due_skip : (p : Placed → Bool) (xs : List Placed) (i round : ℕ) (x : Placed) (before after : ConfigForm) (all due now : ℕ) → i < length xs → x ≡ get_or xs i x → p x ≡ false → all ≡ due + due_after round before (filter p (drop i xs)) → now ≡ due → after ≡ before → all ≡ now + due_after round after (filter p (drop (i + 1) xs))
due_skip p xs i round x before after all due now within is left e m n =
    e
    ∙ ap (λ kept. due + due_after round before kept) (kept_skip p xs i x within is left)
    ∙ ap (λ count. count + due_after round before (filter p (drop (i + 1) xs))) (sym m)
    ∙ ap (λ config. now + due_after round config (filter p (drop (i + 1) xs))) (sym n)

drop_past : (xs : List Placed) (i : ℕ) → length xs ≤ i → drop i xs ≡ []
drop_past [] zero h = refl
drop_past [] (suc i) h = refl
drop_past (x ∷ xs) zero h = absurd (omega arith)
drop_past (x ∷ xs) (suc i) h = drop_past xs i (omega arith)

append-nil : (xs : List Action) → xs ++ [] ≡ xs
append-nil [] = refl
append-nil (x ∷ xs) = ap (λ ys. x ∷ ys) (append-nil xs)

-- nothing is left
pub plan_end : (p : Placed → Bool) (xs : List Placed) (i : ℕ) (before : ConfigForm) (all made : List Action) → length xs ≤ i → all ≡ made ++ plan_after before (filter p (drop i xs)) → made ≡ all
plan_end p xs i before all made past e =
    sym (e ∙ ap (λ ys. made ++ plan_after before (filter p ys)) (drop_past xs i past) ∙ ap (λ actions. made ++ actions) (plan-nil before) ∙ append-nil made)

pub due_end : (p : Placed → Bool) (xs : List Placed) (i round : ℕ) (before : ConfigForm) (all due : ℕ) → length xs ≤ i → all ≡ due + due_after round before (filter p (drop i xs)) → due ≡ all
due_end p xs i round before all due past e =
    let step : due_after round before (filter p (drop i xs)) ≡ 0 = ap (λ ys. due_after round before (filter p ys)) (drop_past xs i past) ∙ due-nil round before in
    due_none all due (due_after round before (filter p (drop i xs))) e step
