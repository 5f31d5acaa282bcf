-- An app of a network takes a new argument.
use Rattle.std.proofs.Common.{◌≡◌, ℕ, ◌<◌, ◌≤◌, List, set, slice_get, Option, Some, Result, Ok, Err, OnOk, refl, sym, ap, subst}
use Rattle.std.proofs.Common.{◌∙◌}
use Rattle.sn_actions.specs.declared.action.Action.TheVariants.{ReconfigApp}
use Rattle.sn_config.specs.declared.app_spec.AppSpec.{AppSpec}
use Rattle.sn_app.specs.Answers.{Stays}
use Rattle.sn_app.specs.Apps.{AppState, reconfigs}
use Rattle.sn_app.specs.Desk.{Tray}
use Rattle.sn_app.specs.Reader.{pure, ◌>>=◌}
use Rattle.sn_app.specs.Runs.{Runs, stands_at}
use Rattle.sn_app.specs.World.{IsSound, Used, desk_of, world}
use Rattle.sn_app.specs.declared.halt.Halt.{Halt}
use Rattle.sn_app.proofs.Leaving.{runs_gave}
use Rattle.sn_app.proofs.Moving.{sound_as}
use Rattle.sn_app.proofs.Running.{runs_as, runs_beside, runs_bind, runs_fail, runs_pure}
use Rattle.sn_kind.specs.Kinds.{kind_can_run, kind_class, kind_places, kind_state}
use Rattle.sn_link.specs.Link.{Line}
use Rattle.sn_names.specs.declared.class.Class.{Class}
use Rattle.sn_network.specs.Acting.{changes, reconfiguring}
use Rattle.sn_network.specs.Nets.{set_named}
use Rattle.sn_network.specs.Places.{class_in, kept_in, named_in, states_in}
use Rattle.sn_network.specs.Standing.{CanRun}
use Rattle.sn_network.specs.declared.place.Place.{Place}
use Rattle.sn_network.proofs.Called.{can_run_after, kept_after, kept_parts, rest_of, states_after}
use Rattle.sn_network.proofs.Found.{found_at}

-- the class of an app that stands once under its name
pub class_read : (places : List Place) (i : ℕ) (p : Place) (name : List ℕ) (class : Class) → slice_get places i ≡ Some p
    → p.name ≡ name
    → ((n : List ℕ) → named_in n places ≤ 1) → class_in places name ≡ Some class → kind_class p.kind ≡ class
class_read places i p name class here is once has =
    the_class (sym (found_at (λ (place : Place). kind_class place.kind) places i p here (once p.name))
    ∙ (ap (class_in places) is ∙ has))
  where
    the_class : Some (kind_class p.kind) ≡ Some class → kind_class p.kind ≡ class
    the_class e = cc

module _ (places : List Place) (i : ℕ) (p q : Place) (here : slice_get places i ≡ Some p) (same : q.name ≡ p.name)
    (once : (name : List ℕ) → named_in name places ≤ 1)
    (t s : Tray) (u v : Used) (slots : List (Option Line)) (h : IsSound (world t u slots) (kept_in places)) where
  -- the run of the app's row is that of the network's
  pub runs_reconfigured : (name : List ℕ) (spec : AppSpec) (r : Result Unit Halt) → p.name ≡ name
      → Runs (reconfigs spec.arg (kind_state p.kind u t)) (world t u slots) (world s v slots) (kind_places p.kind)
      (kind_places q.kind)
      (stands_at (kind_state q.kind v s) r)
      → Runs (changes (ReconfigApp name spec) (states_in places u t)) (world t u slots) (world s v slots)
      (kept_in places) (kept_in (set places i q)) (stands_at (states_in (set places i q) v s) r)
  unfolding changes reconfiguring desk_of
  runs_reconfigured name spec r is run =
      subst (λ n. Runs (changes (ReconfigApp n spec) (states_in places u t)) (world t u slots) (world s v slots)
      (kept_in places) (kept_in (set places i q)) (stands_at (states_in (set places i q) v s) r)) is
      (subst (λ (state : Option AppState).
      Runs (reconfiguring spec.arg state >>= (λ later. pure (set_named p.name later (states_in places u t))))
      (world t u slots) (world s v slots) (kept_in places) (kept_in (set places i q))
      (stands_at (states_in (set places i q) v s) r))
      (sym (found_at (λ (place : Place). kind_state place.kind u t) places i p here (once p.name)))
      (by r (runs_as (kept_in places) (kept_in (set places i q)) (kept_parts places i p here)
      (kept_after places i p q here same once)
      (runs_beside (rest_of places p) run))
      (λ x e place k. (run.moves x e).kept (rest_of places p) (sound_as (λ n. sym (kept_parts places i p here n)) h) place k)
      run.answers.stays))
    where
      by : (r : Result Unit Halt)
          → Runs (reconfigs spec.arg (kind_state p.kind u t)) (world t u slots) (world s v slots)
          (kept_in places) (kept_in (set places i q)) (stands_at (kind_state q.kind v s) r)
          → ((x : AppState) → stands_at (kind_state q.kind v s) r ≡ Ok x → (place : ℕ) → 0 < rest_of places p place
          → v place ≡ u place)
          → Stays t s
          → Runs (reconfigs spec.arg (kind_state p.kind u t) >>= (λ later. pure (Some later))
          >>= (λ later. pure (set_named p.name later (states_in places u t)))) (world t u slots) (world s v slots)
          (kept_in places) (kept_in (set places i q)) (stands_at (states_in (set places i q) v s) r)
      by (Ok done) whole kept stays =
          runs_bind (λ later. pure (set_named p.name later (states_in places u t)))
          (runs_bind (λ later. pure (Some later)) whole
          (runs_pure (Some (kind_state q.kind v s)) (world s v slots) (kept_in (set places i q))))
          (runs_gave (sym (states_after places i p q here same once u v t s stays (kept (kind_state q.kind v s) refl)))
          (runs_pure (set_named p.name (Some (kind_state q.kind v s)) (states_in places u t)) (world s v slots)
          (kept_in (set places i q))))
      by (Err halt) whole kept stays =
          runs_fail (λ later. pure (set_named p.name later (states_in places u t))) (kept_in (set places i q))
          (runs_fail (λ later. pure (Some later)) (kept_in (set places i q)) whole)

-- as an answer has it
pub ready_reconfigured : (places : List Place) (i : ℕ) (p q : Place) → slice_get places i ≡ Some p → q.name ≡ p.name
    → ((name : List ℕ) → named_in name places ≤ 1) → (t s : Tray) (r : Result Unit Halt) → Stays t s → CanRun places t
    → OnOk r (kind_can_run q.kind s) → OnOk r (CanRun (set places i q) s)
ready_reconfigured places i p q here same once t s (Ok done) stays before ready =
    can_run_after places i p q here same once t s stays ready before
ready_reconfigured places i p q here same once t s (Err halt) stays before ready = tt
