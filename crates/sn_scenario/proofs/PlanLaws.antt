-- A plan's actions are taken from the empty form, and each commit ends a configuration of its worker.
use Rattle.std.proofs.Common.{Bool, Err, List, Ok, Result, [], ap, append_assoc, arith, cond, count_by, drop, false, filter, get_or, length, refl, subst, suc, sym, take, true, zero, ℕ, ◌+◌, ◌++◌, ◌<◌, ◌∙◌, ◌∷◌, ◌≡◌, ◌≤◌, ◌||◌}
use Rattle.std.proofs.lemmas.Bool.{or_parts}
use Rattle.std.proofs.lemmas.List.Elements.{recursion_from_All}
use Rattle.std.proofs.lemmas.List.Folds.{list_any-append}
use Rattle.std.proofs.lemmas.List.Sums.{sum_by-append, sum_by-cons}
use Rattle.std.specs.List.{AllByRecursion, list_any}
use Rattle.std.specs.Prelude.{IsOk}
use Rattle.sn_actions.specs.Diffs.{IsChange, diff_of}
use Rattle.sn_actions.specs.PlainForms.{PlainForm}
use Rattle.sn_actions.specs.Plains.{apply, apply_all, full}
use Rattle.sn_actions.specs.declared.action.Action.{Action}
use Rattle.sn_actions.specs.declared.action.Action.TheVariants.{Commit}
use Rattle.sn_actions.specs.declared.fault.ActionFault.{ActionFault}
use Rattle.sn_config.specs.Configs.{ConfigForm}
use Rattle.sn_scenario.proofs.PlanSteps.{kept_next, kept_skip, plan-cons, plan-nil}
use Rattle.sn_scenario.specs.PlanLaws.{AreChanged, IsChanged, committed, config_after, is_commit}
use Rattle.sn_scenario.specs.Plans.{plan_after}
use Rattle.sn_scenario.specs.declared.placed.Placed.{Placed}

-- none of the changes is a commit
not_commit : (before after : ConfigForm) (action : Action) → IsChange before after action → is_commit action ≡ false
not_commit before after Commit h = absurd h
not_commit before after _ h = refl

no_commits : (before after : ConfigForm) (actions : List Action) → AllByRecursion (IsChange before after) actions → list_any is_commit actions ≡ false
no_commits before after [] h = refl
no_commits before after (a ∷ acts) h = ap (λ b. b || list_any is_commit acts) (not_commit before after a h.0) ∙ no_commits before after acts h.1

-- the first actions of a plan: some of the changes before the first commit, or what stands up to it and more
data Cut (xs rest actions : List Action) : Type 0 where
  Before : list_any is_commit actions ≡ false → Cut xs rest actions
  Behind : (n : ℕ) → actions ≡ xs ++ Commit ∷ take n rest → Cut xs rest actions

cut_more : (x : Action) (xs rest actions : List Action) → is_commit x ≡ false → Cut xs rest actions → Cut (x ∷ xs) rest (x ∷ actions)
cut_more x xs rest actions e (Before none) = Before (ap (λ b. b || list_any is_commit actions) e ∙ none)
cut_more x xs rest actions e (Behind n same) = Behind n (ap (λ acts. x ∷ acts) same)

cut : (xs rest : List Action) (n : ℕ) → list_any is_commit xs ≡ false → Cut xs rest (take n (xs ++ Commit ∷ rest))
cut [] rest zero h = Before refl
cut [] rest (suc n) h = Behind n refl
cut (x ∷ xs) rest zero h = Before refl
cut (x ∷ xs) rest (suc n) h =
    let p = or_parts (is_commit x) (list_any is_commit xs) h in cut_more x xs rest (take n (xs ++ Commit ∷ rest)) p.0 (cut xs rest n p.1)

none_committed : (actions : List Action) → list_any is_commit actions ≡ false → committed actions ≡ []
none_committed [] h = refl
none_committed (a ∷ acts) h = ap (λ b. cond b (a ∷ committed acts) []) h

committed_behind : (xs ys : List Action) → committed (xs ++ Commit ∷ ys) ≡ xs ++ Commit ∷ committed ys
committed_behind [] ys = refl
committed_behind (x ∷ xs) ys =
    ap (λ b. cond b (x ∷ committed (xs ++ Commit ∷ ys)) []) (there (is_commit x) (list_any-append is_commit xs (Commit ∷ ys) ∙ or_true (list_any is_commit xs)))
    ∙ ap (λ acts. x ∷ acts) (committed_behind xs ys)
  where
    or_true : (b : Bool) → (b || true) ≡ true
    or_true true = refl
    or_true false = refl

    there : (b : Bool) {c : Bool} → c ≡ true → (b || c) ≡ true
    there true e = refl
    there false e = e

abbrev one_if : Bool → ℕ
one_if b = cond b 1 0

count-cons : (a : Action) (acts : List Action) → count_by is_commit (a ∷ acts) ≡ one_if (is_commit a) + count_by is_commit acts
count-cons a acts = sum_by-cons (λ x. one_if (is_commit x)) a acts

none_counted : (actions : List Action) → list_any is_commit actions ≡ false → count_by is_commit actions ≡ 0
none_counted [] h = omega arith
none_counted (a ∷ acts) h =
    let p = or_parts (is_commit a) (list_any is_commit acts) h in
    let none : one_if (is_commit a) ≡ 0 = ap one_if p.0 in
    omega (arith, count-cons a acts, none_counted acts p.1)

counted_behind : (xs ys : List Action) → list_any is_commit xs ≡ false → count_by is_commit (xs ++ Commit ∷ ys) ≡ suc (count_by is_commit ys)
counted_behind xs ys h = omega (arith, sum_by-append (λ x. one_if (is_commit x)) xs (Commit ∷ ys), none_counted xs h, count-cons Commit ys)

-- actions behind actions
abbrev next : List Action → Result PlainForm ActionFault → Result PlainForm ActionFault
next actions r = elim r [ Ok after ↦ apply_all actions after | Err fault ↦ Err fault ]

append_by : (r : Result PlainForm ActionFault) (xs ys : List Action) (q : PlainForm) → ((x : PlainForm) → apply_all xs x ≡ Ok q → apply_all (xs ++ ys) x ≡ apply_all ys q) → next xs r ≡ Ok q → next (xs ++ ys) r ≡ apply_all ys q
append_by (Ok x) xs ys q more e = more x e
append_by (Err f) xs ys q more e = cc

apply_append : (xs ys : List Action) (p q : PlainForm) → apply_all xs p ≡ Ok q → apply_all (xs ++ ys) p ≡ apply_all ys q
apply_append [] ys p q e = let same : p ≡ q = cc in ap (apply_all ys) same
apply_append (a ∷ xs) ys p q e = append_by (apply a p) xs ys q (λ x d. apply_append xs ys x q d) e

taken_by : (r : Result PlainForm ActionFault) (xs ys : List Action) (q : PlainForm) → ((x : PlainForm) → apply_all (xs ++ ys) x ≡ Ok q → IsOk (apply_all xs x)) → next (xs ++ ys) r ≡ Ok q → IsOk (next xs r)
taken_by (Ok x) xs ys q more e = more x e
taken_by (Err f) xs ys q more e = absurd cc

front_taken : (xs ys : List Action) (p q : PlainForm) → apply_all (xs ++ ys) p ≡ Ok q → IsOk (apply_all xs p)
front_taken [] ys p q e = refl
front_taken (a ∷ xs) ys p q e = taken_by (apply a p) xs ys q (λ x d. front_taken xs ys x q d) e

take_drop : (n : ℕ) (xs : List Action) → take n xs ++ drop n xs ≡ xs
take_drop zero xs = refl
take_drop (suc n) [] = refl
take_drop (suc n) (x ∷ xs) = ap (λ ys. x ∷ ys) (take_drop n xs)

-- the changes, the commit and what follows
split_plan : (before : ConfigForm) (x : Placed) (more : List Placed) → plan_after before (x ∷ more) ≡ diff_of before x.config ++ Commit ∷ plan_after x.config more
split_plan before x more = plan-cons before x more ∙ append_assoc (diff_of before x.config) (Commit ∷ []) (plan_after x.config more)

-- the whole plan is taken
record IsTaken (before : ConfigForm) (actions : List Action) : Type 0 where
  last : ConfigForm
  taken : apply_all actions (full before) ≡ Ok (full last)

all_taken : (before : ConfigForm) (configs : List Placed) → AreChanged before configs → IsTaken before (plan_after before configs)
all_taken before [] h = record { last = before; taken = ap (λ acts. apply_all acts (full before)) (plan-nil before) }
all_taken before (x ∷ more) h =
    let rest = all_taken x.config more h.1 in
    record {
      last = rest.last;
      taken = ap (λ acts. apply_all acts (full before)) (split_plan before x more)
          ∙ apply_append (diff_of before x.config) (Commit ∷ plan_after x.config more) (full before) (full x.config) h.0.law
          ∙ rest.taken;
    }

pub plan_taken : (before : ConfigForm) (configs : List Placed) (n : ℕ) → AreChanged before configs → IsOk (apply_all (take n (plan_after before configs)) (full before))
plan_taken before configs n h =
    let all = all_taken before configs h in
    front_taken (take n (plan_after before configs)) (drop n (plan_after before configs)) (full before) (full all.last) (ap (λ acts. apply_all acts (full before)) (take_drop n (plan_after before configs)) ∙ all.taken)

-- up to the last commit among its first actions, a plan gives the full form of that configuration
abbrev form_at : ConfigForm → List Placed → List Action → Result PlainForm ActionFault
form_at before configs actions = Ok (full (config_after (count_by is_commit actions) before configs))

at_none : (before : ConfigForm) (configs : List Placed) (actions : List Action) → list_any is_commit actions ≡ false → apply_all (committed actions) (full before) ≡ form_at before configs actions
at_none before configs actions h =
    ap (λ acts. apply_all acts (full before)) (none_committed actions h) ∙ sym (ap (λ n. Ok (full (config_after n before configs))) (none_counted actions h))

at_cut : (before : ConfigForm) (x : Placed) (more : List Placed) (actions : List Action) → IsChanged before x.config → list_any is_commit (diff_of before x.config) ≡ false → ((n : ℕ) → apply_all (committed (take n (plan_after x.config more))) (full x.config) ≡ form_at x.config more (take n (plan_after x.config more))) → Cut (diff_of before x.config) (plan_after x.config more) actions → apply_all (committed actions) (full before) ≡ form_at before (x ∷ more) actions
at_cut before x more actions h none later (Before none_here) = at_none before (x ∷ more) actions none_here
at_cut before x more actions h none later (Behind n same) =
    let ys = take n (plan_after x.config more) in
    ap (λ acts. apply_all acts (full before)) (ap committed same ∙ committed_behind (diff_of before x.config) ys)
    ∙ apply_append (diff_of before x.config) (Commit ∷ committed ys) (full before) (full x.config) h.law
    ∙ later n
    ∙ sym (ap (λ n. Ok (full (config_after n before (x ∷ more)))) (ap (count_by is_commit) same ∙ counted_behind (diff_of before x.config) ys none))

none_taken : (n : ℕ) → ◌≡◌ {A = List Action} (take n []) []
none_taken zero = refl
none_taken (suc n) = refl

pub plan_prefix : (before : ConfigForm) (configs : List Placed) → AreChanged before configs → (n : ℕ) → apply_all (committed (take n (plan_after before configs))) (full before) ≡ form_at before configs (take n (plan_after before configs))
plan_prefix before [] h n =
    let none : take n (plan_after before []) ≡ [] = ap (take n) (plan-nil before) ∙ none_taken n in
    ap (λ acts. apply_all (committed acts) (full before)) none ∙ sym (ap (form_at before []) none)
plan_prefix before (x ∷ more) h n =
    let none = no_commits before x.config (diff_of before x.config) (recursion_from_All (IsChange before x.config) (diff_of before x.config) h.0.changes) in
    let P : List Action → Type 0 = λ acts. apply_all (committed (take n acts)) (full before) ≡ form_at before (x ∷ more) (take n acts) in
    subst P (sym (split_plan before x more)) (at_cut before x more (take n (diff_of before x.config ++ Commit ∷ plan_after x.config more)) h.0 none (plan_prefix x.config more h.1) (cut (diff_of before x.config) (plan_after x.config more) n none))

-- the laws of the configurations so far, with those that are left, are those of all
pub changed_turn : (p : Placed → Bool) (xs : List Placed) (i : ℕ) (x : Placed) (before after : ConfigForm) → i < length xs → x ≡ get_or xs i x → p x ≡ true → after ≡ x.config → IsChanged before x.config → AreChanged after (filter p (drop (i + 1) xs)) → AreChanged before (filter p (drop i xs))
changed_turn p xs i x before after within is taken same one rest =
    subst (AreChanged before) (sym (kept_next p xs i x within is taken)) (one, subst (λ c. AreChanged c (filter p (drop (i + 1) xs))) same rest)

pub changed_skip : (p : Placed → Bool) (xs : List Placed) (i : ℕ) (x : Placed) (before after : ConfigForm) → i < length xs → x ≡ get_or xs i x → p x ≡ false → after ≡ before → AreChanged after (filter p (drop (i + 1) xs)) → AreChanged before (filter p (drop i xs))
changed_skip p xs i x before after within is left same rest =
    subst (AreChanged before) (sym (kept_skip p xs i x within is left)) (subst (λ c. AreChanged c (filter p (drop (i + 1) xs))) same rest)

past : (xs : List Placed) (i : ℕ) → length xs ≤ i → drop i xs ≡ []
past [] zero h = refl
past [] (suc i) h = refl
past (x ∷ xs) zero h = absurd (omega arith)
past (x ∷ xs) (suc i) h = past xs i (omega arith)

pub changed_end : (p : Placed → Bool) (xs : List Placed) (i : ℕ) (before : ConfigForm) → length xs ≤ i → AreChanged before (filter p (drop i xs))
changed_end p xs i before h = subst (λ ys. AreChanged before (filter p ys)) (sym (past xs i h)) tt
