-- An app comes to a network.
use Rattle.std.proofs.Common.{◌≡◌, ℕ, zero, suc, ◌+◌, ◌<◌, ◌≤◌, Bool, true, false, cond, if◌then◌else◌, bytes_eq, List, [], ◌∷◌}
use Rattle.std.proofs.Common.{◌++◌, slice_get, Option, Some, None, Result, Ok, Err, refl, sym, ap, subst, ◌∙◌, arith}
use mathlib.Core.Path.{fun_ext}
use Rattle.std.proofs.lemmas.List.Sums.{sum_by-cons, sum_by_push}
use Rattle.sn_app.specs.Answers.{Stays}
use Rattle.sn_actions.specs.declared.action.Action.TheVariants.{StartApp}
use Rattle.sn_config.specs.declared.app_spec.AppSpec.{AppSpec}
use Rattle.sn_app.specs.Apps.{AppState, starts}
use Rattle.sn_app.specs.Calls.{row_of}
use Rattle.sn_app.specs.Desk.{Tray, roster_of}
use Rattle.sn_app.specs.Reader.{Meaning, pure}
use Rattle.sn_app.specs.Runs.{Runs}
use Rattle.sn_app.specs.World.{IsSound, Used, desk_of, nowhere, world}
use Rattle.sn_app.specs.declared.halt.Halt.{Halt}
use Rattle.sn_app.proofs.Leaving.{runs_gave}
use Rattle.sn_app.proofs.Moving.{sound_as}
use Rattle.sn_app.proofs.Running.{runs_as, runs_beside, runs_bind, runs_fail, runs_look, runs_pure}
use Rattle.sn_kind.specs.Kinds.{kind_can_run, kind_class, kind_keeps, kind_places, kind_state, kind_stays}
use Rattle.sn_link.specs.Link.{Line}
use Rattle.sn_network.specs.Acting.{changes, starting}
use Rattle.sn_network.specs.Nets.{set_named}
use Rattle.sn_network.specs.Places.{class_in, found, is_named, kept_in, named_in, states_in}
use Rattle.sn_network.specs.Standing.{CanRun}
use Rattle.sn_network.specs.declared.place.Place.{Place}
use Rattle.sn_network.proofs.Found.{found_as, same_bytes}
use Rattle.sn_network.proofs.Sums.{one_within, the_same}

-- what is nowhere is read off none, and counts none
module _ {A B : Type 0} (f : Place → A) (g : Place → B) where
  pub found_nowhere : (places : List Place) (name : List ℕ) → found f places name ≡ None → found g places name ≡ None
  unfolding found
  found_nowhere [] name e = refl
  found_nowhere (q ∷ qs) name e = by (bytes_eq name q.name) e (found_nowhere qs name)
    where
      by : (b : Bool) → (if b then Some (f q) else found f qs name) ≡ None → (found f qs name ≡ None → found g qs name ≡ None)
          → (if b then Some (g q) else found g qs name) ≡ None
      by true e more = absurd cc
      by false e more = more e

named_nowhere : (places : List Place) (name : List ℕ) → class_in places name ≡ None → named_in name places ≡ 0
unfolding found named_in is_named
named_nowhere [] name e = refl
named_nowhere (q ∷ qs) name e =
    let s = sum_by-cons (λ (place : Place). cond {A = ℕ} (bytes_eq name place.name) 1 0) q qs in
    by (bytes_eq name q.name) refl e (named_nowhere qs name) s
  where
    by : (b : Bool) → bytes_eq name q.name ≡ b → (if b then Some (kind_class q.kind) else class_in qs name) ≡ None
        → (class_in qs name ≡ None → named_in name qs ≡ 0)
        → named_in name (q ∷ qs) ≡ cond {A = ℕ} (bytes_eq name q.name) 1 0 + named_in name qs
        → named_in name (q ∷ qs) ≡ 0
    by true is e more s = absurd cc
    by false is e more s =
        let here : cond {A = ℕ} (bytes_eq name q.name) 1 0 ≡ 0 = ap (λ b. cond {A = ℕ} b 1 0) is in
        let rest = more e in omega (arith, s, here, rest)

module _ {A : Type 0} (f : Place → A) where
  found_behind : (places : List Place) (q : Place) (name : List ℕ) → bytes_eq name q.name ≡ false
      → found f (places ++ q ∷ []) name ≡ found f places name
  unfolding found
  found_behind [] q name e = ap (λ b. if b then Some (f q) else None) e
  found_behind (x ∷ xs) q name e = ap (λ rest. if bytes_eq name x.name then Some (f x) else rest) (found_behind xs q name e)

  found_new : (places : List Place) (q : Place) (name : List ℕ) → bytes_eq name q.name ≡ true → found f places name ≡ None
      → found f (places ++ q ∷ []) name ≡ Some (f q)
  unfolding found
  found_new [] q name e none = ap (λ b. if b then Some (f q) else None) e
  found_new (x ∷ xs) q name e none = by (bytes_eq name x.name) none (found_new xs q name e)
    where
      by : (b : Bool) → (if b then Some (f x) else found f xs name) ≡ None
          → (found f xs name ≡ None → found f (xs ++ q ∷ []) name ≡ Some (f q))
          → (if b then Some (f x) else found f (xs ++ q ∷ []) name) ≡ Some (f q)
      by true e more = absurd cc
      by false e more = more e

  -- it is the one of its name, and all others are as before
  pub found_pushed : (places : List Place) (q : Place) → found f places q.name ≡ None
      → found f (places ++ q ∷ []) ≡ set_named q.name (Some (f q)) (found f places)
  found_pushed places q none = fun_ext (λ name. by name (bytes_eq name q.name) refl)
    where
      by : (name : List ℕ) (b : Bool) → bytes_eq name q.name ≡ b
          → found f (places ++ q ∷ []) name ≡ set_named q.name (Some (f q)) (found f places) name
      by name true e =
          found_new places q name e (ap (found f places) (same_bytes name q.name e) ∙ none)
          ∙ sym (ap (λ b. if b then Some (f q) else found f places name) e)
      by name false e =
          found_behind places q name e ∙ sym (ap (λ b. if b then Some (f q) else found f places name) e)

module _ (places : List Place) (q : Place) where
  pub once_pushed : class_in places q.name ≡ None → ((n : List ℕ) → named_in n places ≤ 1)
      → (n : List ℕ) → named_in n (places ++ q ∷ []) ≤ 1
  unfolding named_in is_named
  once_pushed none once n =
      let s = sum_by_push (λ (place : Place). cond {A = ℕ} (bytes_eq n place.name) 1 0) places q in
      by (bytes_eq n q.name) refl s
    where
      by : (b : Bool) → bytes_eq n q.name ≡ b
          → named_in n (places ++ q ∷ []) ≡ named_in n places + cond {A = ℕ} (bytes_eq n q.name) 1 0
          → named_in n (places ++ q ∷ []) ≤ 1
      by true e s =
          let here : cond {A = ℕ} (bytes_eq n q.name) 1 0 ≡ 1 = ap (λ b. cond {A = ℕ} b 1 0) e in
          let none' : named_in n places ≡ 0 = named_nowhere places n (ap (class_in places) (same_bytes n q.name e) ∙ none) in
          omega (arith, s, here, none')
      by false e s =
          let here : cond {A = ℕ} (bytes_eq n q.name) 1 0 ≡ 0 = ap (λ b. cond {A = ℕ} b 1 0) e in
          let one = once n in omega (arith, s, here, one)

  get_pushed : (j : ℕ) (x : Place) → slice_get (places ++ q ∷ []) j ≡ Some x → (Σ : Type 0) → (slice_get places j ≡ Some x → Σ)
      → (x ≡ q → Σ) → Σ
  get_pushed j x there goal old new = walk places j there old
    where
      walk : (xs : List Place) (j : ℕ) → slice_get (xs ++ q ∷ []) j ≡ Some x → (slice_get xs j ≡ Some x → goal) → goal
      walk [] zero e old = new (sym (the_same e))
      walk [] (suc j) e old = absurd cc
      walk (y ∷ ys) zero e old = old e
      walk (y ∷ ys) (suc j) e old = walk ys j e old

  pub ready_pushed : (t s : Tray) → Stays t s → CanRun places t → kind_can_run q.kind s → CanRun (places ++ q ∷ []) s
  ready_pushed t s stays before ready j x there =
      get_pushed j x there (kind_can_run x.kind s) (λ old. kind_stays x.kind t s stays (before j x old))
      (λ is. subst (λ (y : Place). kind_can_run y.kind s) (sym is) ready)

  -- what is kept is as before, where the new app keeps nothing
  kept_pushed : ((place : ℕ) → kind_places q.kind place ≡ 0) → (place : ℕ)
      → kept_in (places ++ q ∷ []) place ≡ kept_in places place
  unfolding kept_in
  kept_pushed none place =
      let s = sum_by_push (λ (app : Place). kind_places app.kind place) places q in let z = none place in omega (arith, s, z)

-- the states of all apps stay, where all that they keep does
pub states_stay : (places : List Place) (u v : Used) (t s : Tray) → Stays t s
    → ((place : ℕ) → 0 < kept_in places place → v place ≡ u place) → states_in places v s ≡ states_in places u t
unfolding kept_in
states_stay places u v t s stays kept = fun_ext (λ name.
    found_as (λ (place : Place). kind_state place.kind u t) (λ (place : Place). kind_state place.kind v s) places name
    (λ j x there is. kind_keeps x.kind u v t s stays (λ place k.
    let w = one_within (λ (app : Place). kind_places app.kind place) places j x there in kept place (omega (arith, w, k)))))

module _ (places : List Place) (t s : Tray) (u v : Used) (slots : List (Option Line))
    (h : IsSound (world t u slots) (kept_in places))
    (name : List ℕ) (spec : AppSpec) (row : ℕ) (row_is : row ≡ row_of (roster_of t).apps name) where
  beside_all : {r : Result AppState Halt}
      → Runs (starts spec.class spec.arg row) (world t u slots) (world s v slots) nowhere nowhere r
      → Runs (starting name spec) (world t u slots) (world s v slots) (kept_in places) (kept_in places) r
  unfolding starting desk_of
  beside_all {r} run =
      runs_look _ (subst (λ n. Runs (starts spec.class spec.arg n) (world t u slots) (world s v slots) (kept_in places)
      (kept_in places) r)
      row_is (runs_as (kept_in places) (kept_in places) (λ q. omega arith) (λ q. omega arith) (runs_beside (kept_in places) run)))

  -- an app started, and its name has its state
  pub runs_started : (q : Place) → q.name ≡ name → class_in places name ≡ None → ((place : ℕ) → kind_places q.kind place ≡ 0)
      → Runs (starts spec.class spec.arg row) (world t u slots) (world s v slots) nowhere nowhere
      (Ok (kind_state q.kind v s))
      → Runs (changes (StartApp name spec) (states_in places u t)) (world t u slots) (world s v slots)
      (kept_in places) (kept_in (places ++ q ∷ [])) (Ok (states_in (places ++ q ∷ []) v s))
  unfolding changes desk_of
  runs_started q is none keeps_none run =
      let whole = beside_all run in
      let stayed : states_in places v s ≡ states_in places u t =
      states_stay places u v t s (run.answers.stays) (λ place k.
      (run.moves (kind_state q.kind v s) refl).kept (kept_in places) (sound_as (λ q. omega arith) h) place k) in
      let pushed : states_in (places ++ q ∷ []) v s ≡ set_named q.name (Some (kind_state q.kind v s)) (states_in places v s) =
      found_pushed (λ (place : Place). kind_state place.kind v s) places q
      (found_nowhere (λ (place : Place). kind_class place.kind) (λ (place : Place). kind_state place.kind v s) places q.name
      (ap (class_in places) is ∙ none)) in
      runs_bind (λ state. pure (set_named name (Some state) (states_in places u t))) whole
      (runs_gave (ap (λ n. set_named n (Some (kind_state q.kind v s)) (states_in places u t)) (sym is)
      ∙ (ap (set_named q.name (Some (kind_state q.kind v s))) (sym stayed) ∙ sym pushed))
      (runs_as (kept_in places) (kept_in (places ++ q ∷ [])) (λ place. refl) (kept_pushed places q keeps_none)
      (runs_pure (set_named name (Some (kind_state q.kind v s)) (states_in places u t)) (world s v slots) (kept_in places))))

  -- it didn't start
  pub runs_not_started : (after : ℕ → ℕ) (halt : Halt)
      → Runs (starts spec.class spec.arg row) (world t u slots) (world s v slots) nowhere nowhere (Err halt)
      → Runs (changes (StartApp name spec) (states_in places u t)) (world t u slots) (world s v slots) (kept_in places) after
      (Err halt)
  unfolding changes
  runs_not_started after halt run =
      runs_fail (λ state. pure (set_named name (Some state) (states_in places u t))) after (beside_all run)

-- what every run keeps
pub run_stays : {R : Type 0} {m : Meaning R} {r : Result R Halt} {before after : ℕ → ℕ} (t s : Tray) (u v : Used)
    (slots later : List (Option Line))
    → Runs m (world t u slots) (world s v later) before after r → Stays t s
unfolding desk_of
run_stays t s u v slots later run = run.answers.stays
