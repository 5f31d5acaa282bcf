-- An app goes from a network.
use Rattle.std.proofs.Common.{◌≡◌, ℕ, zero, suc, ◌+◌, ◌-◌, ◌<◌, ◌≤◌, Bool, true, false, cond, if◌then◌else◌, bytes_eq, List, []}
use Rattle.std.proofs.Common.{◌∷◌, remove, slice_get, Option, Some, None, Result, Ok, Err, OnOk, refl, sym, ap, subst, ◌∙◌, arith}
use mathlib.Core.Path.{fun_ext}
use Rattle.std.proofs.lemmas.List.Sums.{sum_by-cons}
use Rattle.sn_actions.specs.declared.action.Action.TheVariants.{StopApp}
use Rattle.sn_app.specs.Answers.{Stays}
use Rattle.sn_app.specs.Apps.{AppState, stops}
use Rattle.sn_app.specs.Desk.{Tray}
use Rattle.sn_app.specs.Reader.{pure, ◌>>=◌}
use Rattle.sn_app.specs.Runs.{Runs, stands_at}
use Rattle.sn_app.specs.Starts.{AreKept}
use Rattle.sn_app.specs.World.{IsSound, Used, desk_of, in_slots, misfits, nowhere, rows_in, world, ◌⊕◌}
use Rattle.sn_app.specs.declared.halt.Halt.{Halt}
use Rattle.sn_app.proofs.Leaving.{runs_gave}
use Rattle.sn_app.proofs.Moving.{sound_as}
use Rattle.sn_app.proofs.Running.{runs_as, runs_beside, runs_bind, runs_fail, runs_pure}
use Rattle.sn_kind.specs.Kinds.{kind_can_run, kind_places, kind_state, kind_stays}
use Rattle.sn_link.specs.Link.{Line}
use Rattle.sn_network.specs.Acting.{changes, stopping}
use Rattle.sn_network.specs.Nets.{set_named}
use Rattle.sn_network.specs.Places.{found, is_named, kept_in, named_in, states_in}
use Rattle.sn_network.specs.Standing.{CanRun}
use Rattle.sn_network.specs.declared.place.Place.{Place}
use Rattle.sn_network.proofs.Called.{kept_parts, rest_of, states_after}
use Rattle.sn_network.proofs.Found.{found_at, found_set_other}
use Rattle.sn_network.proofs.Sums.{get_removed, one_within, sum_remove, the_same}

-- a name that no app has is read off none
none_named : {A : Type 0} (f : Place → A) (places : List Place) (name : List ℕ) → named_in name places ≡ 0
    → found f places name ≡ None
unfolding found named_in is_named
none_named f [] name e = refl
none_named f (q ∷ qs) name e =
    let s = sum_by-cons (λ (place : Place). cond {A = ℕ} (bytes_eq name place.name) 1 0) q qs in
    by (bytes_eq name q.name) refl s (none_named f qs name)
  where
    by : (b : Bool) → bytes_eq name q.name ≡ b
        → named_in name (q ∷ qs) ≡ cond {A = ℕ} (bytes_eq name q.name) 1 0 + named_in name qs
        → (named_in name qs ≡ 0 → found f qs name ≡ None)
        → (if b then Some (f q) else found f qs name) ≡ None
    by true is s more =
        let here : cond {A = ℕ} (bytes_eq name q.name) 1 0 ≡ 1 = ap (λ b. cond {A = ℕ} b 1 0) is in
        absurd (omega (arith, here, s, e))
    by false is s more = more (omega (arith, s, e))

module _ (places : List Place) (i : ℕ) (p : Place) (here : slice_get places i ≡ Some p)
    (once : (name : List ℕ) → named_in name places ≤ 1) where
  named_fewer : (n : List ℕ) → named_in n (remove places i) + is_named n p ≡ named_in n places
  unfolding named_in
  named_fewer n = sum_remove (is_named n) places i p here

  pub once_removed : (n : List ℕ) → named_in n (remove places i) ≤ 1
  once_removed n = let f = named_fewer n in let o = once n in omega (arith, f, o)

  found_other : {A : Type 0} (f : Place → A) (xs : List Place) (j : ℕ) (name : List ℕ) → slice_get xs j ≡ Some p
      → bytes_eq name p.name ≡ false → found f (remove xs j) name ≡ found f xs name
  unfolding found
  found_other f [] j name there e = absurd cc
  found_other f (x ∷ xs) zero name there e =
      sym (ap (λ b. if b then Some (f x) else found f xs name)
      (ap (λ (y : Place). bytes_eq name y.name) (the_same there) ∙ e))
  found_other f (x ∷ xs) (suc j) name there e =
      ap (λ rest. if bytes_eq name x.name then Some (f x) else rest) (found_other f xs j name there e)

  none_left : (name : List ℕ) → bytes_eq name p.name ≡ true → named_in name (remove places i) ≡ 0
  unfolding is_named
  none_left name e =
      let f = named_fewer name in let o = once name in
      let one : is_named name p ≡ 1 = ap (λ b. cond {A = ℕ} b 1 0) e in omega (arith, f, o, one)

  -- its name is nobody's, and all others are as before
  pub found_removed : {A : Type 0} (f : Place → A) → found f (remove places i) ≡ set_named p.name None (found f places)
  found_removed f = fun_ext (λ name. by name (bytes_eq name p.name) refl)
    where
      by : (name : List ℕ) (b : Bool) → bytes_eq name p.name ≡ b
          → found f (remove places i) name ≡ set_named p.name None (found f places) name
      by name true e =
          none_named f (remove places i) name (none_left name e)
          ∙ sym (ap (λ b. if b then None else found f places name) e)
      by name false e =
          found_other f places i name here e ∙ sym (ap (λ b. if b then None else found f places name) e)

  pub ready_removed : (t s : Tray) → Stays t s → CanRun places t → CanRun (remove places i) s
  ready_removed t s stays ready j x there =
      get_removed places i j x (kind_can_run x.kind s) there (λ k old. kind_stays x.kind t s stays (ready k x old))

  kept_fewer : (place : ℕ) → kept_in (remove places i) place ≡ (nowhere ⊕ rest_of places p) place
  unfolding kept_in
  kept_fewer place =
      let f = sum_remove (λ (app : Place). kind_places app.kind place) places i p here in
      let r : rest_of places p place ≡ kept_in places place - kind_places p.kind place = refl in
      omega (arith, f, r)

  module _ (t s : Tray) (u v : Used) (slots : List (Option Line)) (h : IsSound (world t u slots) (kept_in places)) where
    states_left : Stays t s → ((place : ℕ) → 0 < rest_of places p place → v place ≡ u place)
        → states_in (remove places i) v s ≡ set_named p.name None (states_in places u t)
    states_left stays kept = fun_ext (λ name. by name (bytes_eq name p.name) refl)
      where
        now : Place → AppState
        now place = kind_state place.kind v s

        by : (name : List ℕ) (b : Bool) → bytes_eq name p.name ≡ b
            → states_in (remove places i) v s name ≡ set_named p.name None (states_in places u t) name
        by name true e =
            none_named now (remove places i) name (none_left name e)
            ∙ sym (ap (λ b. if b then None else states_in places u t name) e)
        by name false e =
            found_other now places i name here e
            ∙ (sym (found_set_other now places i p p name here refl e)
            ∙ (ap (λ f. f name) (states_after places i p p here refl once u v t s stays kept)
            ∙ (ap (λ b. if b then Some (kind_state p.kind v s) else states_in places u t name) e
            ∙ sym (ap (λ b. if b then None else states_in places u t name) e))))

    -- the run of the app's stop is that of the network's
    pub runs_stopped : (name : List ℕ) (r : Result Unit Halt) → p.name ≡ name
        → Runs (stops (kind_state p.kind u t)) (world t u slots) (world s v slots) (kind_places p.kind) nowhere (stands_at true r)
        → Runs (changes (StopApp name) (states_in places u t)) (world t u slots) (world s v slots)
        (kept_in places) (kept_in (remove places i)) (stands_at (states_in (remove places i) v s) r)
    unfolding changes stopping desk_of
    runs_stopped name r is run =
        subst (λ n. Runs (changes (StopApp n) (states_in places u t)) (world t u slots) (world s v slots)
        (kept_in places) (kept_in (remove places i)) (stands_at (states_in (remove places i) v s) r)) is
        (subst (λ (state : Option AppState).
        Runs (stopping state >>= (λ _. pure (set_named p.name None (states_in places u t)))) (world t u slots) (world s v slots)
        (kept_in places) (kept_in (remove places i)) (stands_at (states_in (remove places i) v s) r))
        (sym (found_at (λ (place : Place). kind_state place.kind u t) places i p here (once p.name)))
        (by r (runs_as (kept_in places) (kept_in (remove places i)) (kept_parts places i p here) kept_fewer
        (runs_beside (rest_of places p) run))
        (λ x e place k. (run.moves x e).kept (rest_of places p)
        (sound_as (λ q. sym (kept_parts places i p here q)) h) place k) run.answers.stays))
      where
        by : (r : Result Unit Halt)
            → Runs (stops (kind_state p.kind u t)) (world t u slots) (world s v slots)
            (kept_in places) (kept_in (remove places i)) (stands_at true r)
            → ((x : Bool) → stands_at true r ≡ Ok x → (place : ℕ) → 0 < rest_of places p place → v place ≡ u place)
            → Stays t s
            → Runs (stops (kind_state p.kind u t) >>= (λ _. pure (set_named p.name None (states_in places u t))))
            (world t u slots) (world s v slots)
            (kept_in places) (kept_in (remove places i)) (stands_at (states_in (remove places i) v s) r)
        by (Ok done) whole kept stays =
            runs_bind (λ _. pure (set_named p.name None (states_in places u t))) whole
            (runs_gave (sym (states_left stays (kept true refl)))
            (runs_pure (set_named p.name None (states_in places u t)) (world s v slots) (kept_in (remove places i))))
        by (Err halt) whole kept stays =
            runs_fail (λ _. pure (set_named p.name None (states_in places u t))) (kept_in (remove places i)) whole

-- an app's places are kept where all are
pub own_kept : (places : List Place) (i : ℕ) (p : Place) (u : Used) → slice_get places i ≡ Some p → AreKept u (kept_in places)
    → AreKept u (kind_places p.kind)
unfolding kept_in
own_kept places i p u here h = record {
  once = λ place.
      let w = one_within (λ (app : Place). kind_places app.kind place) places i p here in let o = h.once place in
      omega (arith, w, o);
  in_use = λ place k.
      let w = one_within (λ (app : Place). kind_places app.kind place) places i p here in h.in_use place (omega (arith, w, k));
}

-- as an answer has it
pub ready_left : (places : List Place) (i : ℕ) (p : Place) → slice_get places i ≡ Some p
    → (once : (name : List ℕ) → named_in name places ≤ 1)
    → (t s : Tray) (r : Result Unit Halt) → Stays t s → CanRun places t → OnOk r (CanRun (remove places i) s)
ready_left places i p here once t s (Ok done) stays ready = ready_removed places i p here once t s stays ready
ready_left places i p here once t s (Err halt) stays ready = tt

-- what is kept is sound where there is no link
pub kept_alone : (t : Tray) (u : Used) (mine : ℕ → ℕ) → AreKept u mine → IsSound (world t u []) mine
unfolding in_slots misfits rows_in
kept_alone t u mine h = record {
  once = λ place. let o = h.once place in omega (arith, o);
  in_use = λ place k. h.in_use place (omega (arith, k));
  lengths = refl;
  rows = λ row. omega arith;
}
