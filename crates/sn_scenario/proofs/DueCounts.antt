-- What is due is the sum of the numbers of the worker's configurations that are due.
use Rattle.std.proofs.Common.{Bool, List, [], ap, arith, cond, count_by, drop, false, filter, get_or, length, nat_le, refl, sym, take, true, ℕ, ◌&&◌, ◌*◌, ◌+◌, ◌<◌, ◌∙◌, ◌∷◌, ◌≡◌, ◌≤◌}
use Rattle.std.proofs.lemmas.Bool.{eqb-true}
use Rattle.std.proofs.lemmas.List.{take_more}
use Rattle.std.proofs.lemmas.List.Sums.{fold-append, sum_by-cons}
use Rattle.sn_config.specs.Configs.{ConfigForm}
use Rattle.sn_scenario.proofs.PlanSteps.{due_end, due_skip, due_turn, next_cut}
use Rattle.sn_scenario.specs.ConfigLines.{no_config, of_worker}
use Rattle.sn_scenario.specs.PlanLaws.{count_at, last_config}
use Rattle.sn_scenario.specs.Plans.{change_of, due_after}
use Rattle.sn_scenario.specs.declared.placed.Placed.{Placed}

abbrev newer : ℕ → ConfigForm → Placed → ConfigForm
newer worker before next = cond (of_worker worker next) next.config before

last_more : (worker : ℕ) (xs : List Placed) (i : ℕ) (x : Placed) → i < length xs → x ≡ get_or xs i x → last_config worker (take (i + 1) xs) ≡ cond (of_worker worker x) x.config (last_config worker (take i xs))
last_more worker xs i x within is =
    ap (last_config worker) (take_more xs i x within)
    ∙ fold-append (newer worker) no_config (take i xs) (get_or xs i x ∷ [])
    ∙ ap (λ y. newer worker (last_config worker (take i xs)) y) (sym is)

pub due_next : (worker round : ℕ) (xs : List Placed) (i : ℕ) (x : Placed) (all due count : ℕ) → i < length xs → x ≡ get_or xs i x → count ≡ count_at xs i x → all ≡ due + due_after round (last_config worker (take i xs)) (filter (of_worker worker) (drop i xs)) → all ≡ (due + cond (of_worker worker x && nat_le x.round round) count 0) + due_after round (last_config worker (take (i + 1) xs)) (filter (of_worker worker) (drop (i + 1) xs))
due_next worker round xs i x all due count within is c e = by (of_worker worker x) refl
  where
    by : (b : Bool) → of_worker worker x ≡ b → all ≡ (due + cond (of_worker worker x && nat_le x.round round) count 0) + due_after round (last_config worker (take (i + 1) xs)) (filter (of_worker worker) (drop (i + 1) xs))
    by true t =
        let own : x.worker ≡ worker = eqb-true x.worker worker t in
        let same : count ≡ length (change_of (last_config worker (take i xs)) x.config) = c ∙ ap (λ w. length (change_of (last_config w (take i xs)) x.config)) own in
        due_turn (of_worker worker) xs i round x (last_config worker (take i xs)) (last_config worker (take (i + 1) xs)) all due (due + cond (of_worker worker x && nat_le x.round round) count 0) within is t e
        (ap (λ b. due + cond (b && nat_le x.round round) count 0) t ∙ ap (λ n. due + cond (nat_le x.round round) n 0) same)
        (last_more worker xs i x within is ∙ ap (λ b. cond b x.config (last_config worker (take i xs))) t)
    by false t =
        let none : cond (of_worker worker x && nat_le x.round round) count 0 ≡ 0 = ap (λ b. cond (b && nat_le x.round round) count 0) t in
        due_skip (of_worker worker) xs i round x (last_config worker (take i xs)) (last_config worker (take (i + 1) xs)) all due (due + cond (of_worker worker x && nat_le x.round round) count 0) within is t e (omega arith)
        (last_more worker xs i x within is ∙ ap (λ b. cond b x.config (last_config worker (take i xs))) t)

pub due_last : (worker round : ℕ) (xs : List Placed) (i all due : ℕ) → length xs ≤ i → all ≡ due + due_after round (last_config worker (take i xs)) (filter (of_worker worker) (drop i xs)) → due ≡ all
due_last worker round xs i all due past e = due_end (of_worker worker) xs i round (last_config worker (take i xs)) all due past e

abbrev one_if : Bool → ℕ
one_if b = cond b 1 0

counted_next : (worker : ℕ) (xs : List Placed) (i : ℕ) (x : Placed) → i < length xs → x ≡ get_or xs i x → count_by (of_worker worker) (drop i xs) ≡ one_if (of_worker worker x) + count_by (of_worker worker) (drop (i + 1) xs)
counted_next worker xs i x within is =
    ap (count_by (of_worker worker)) (next_cut xs i x within is) ∙ sum_by-cons (λ y. one_if (of_worker worker y)) x (drop (i + 1) xs)

-- so many of at most 64 configurations fit
pub due_fits : (worker round : ℕ) (xs : List Placed) (i : ℕ) (x : Placed) (due count : ℕ) → i < length xs → x ≡ get_or xs i x → count < 4294967296 → due + 4294967296 * count_by (of_worker worker) (drop i xs) ≤ 4294967296 * 64 → (due + cond (of_worker worker x && nat_le x.round round) count 0) + 4294967296 * count_by (of_worker worker) (drop (i + 1) xs) ≤ 4294967296 * 64
due_fits worker round xs i x due count within is small h =
    by (of_worker worker x) (nat_le x.round round) (count_by (of_worker worker) (drop i xs)) (count_by (of_worker worker) (drop (i + 1) xs)) (counted_next worker xs i x within is) h
  where
    by : (b d : Bool) (now left : ℕ) → now ≡ one_if b + left → due + 4294967296 * now ≤ 4294967296 * 64 → (due + cond (b && d) count 0) + 4294967296 * left ≤ 4294967296 * 64
    by true true now left e f = omega arith
    by true false now left e f = omega arith
    by false d now left e f = omega arith
