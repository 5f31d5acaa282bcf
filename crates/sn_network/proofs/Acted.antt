-- An action was taken: what it did to apps and links, and to the plain form, is what it does to the network.
use Rattle.std.proofs.Common.{◌≡◌, ℕ, ◌≤◌, List, Option, Some, None, IsSome, Result, Ok, Err, OnErr, OnOk, refl, sym, ap, subst}
use Rattle.std.proofs.Common.{◌∙◌, arith}
use mathlib.Core.Path.{fun_ext}
use Rattle.sn_actions.specs.Consistency.{IsConsistent}
use Rattle.sn_actions.specs.PlainForms.{PlainForm}
use Rattle.sn_actions.specs.Plains.{apply}
use Rattle.sn_actions.specs.declared.action.Action.{Action}
use Rattle.sn_actions.specs.declared.action.Action.TheVariants.{Commit, FreeLink, LinkInput, LinkOutput, NewLink, ReconfigApp}
use Rattle.sn_actions.specs.declared.action.Action.TheVariants.{StartApp, StopApp, UnlinkInput, UnlinkOutput}
use Rattle.sn_app.specs.Answers.{Stays}
use Rattle.sn_app.specs.Calls.{HasLink, HasName}
use Rattle.sn_app.specs.Starts.{AreKept, ArgIsThere}
use Rattle.sn_config.specs.ArgText.{IsArgOf}
use Rattle.sn_config.specs.declared.app_spec.AppSpec.{AppSpec}
use Rattle.sn_app.specs.Desk.{Tray, roster_of}
use Rattle.sn_app.specs.Reader.{Meaning, pure}
use Rattle.sn_app.specs.Rows.{◌>>◌}
use Rattle.sn_app.specs.Runs.{Runs, stands_at}
use Rattle.sn_app.specs.World.{IsSound, Used, nowhere, world}
use Rattle.sn_app.specs.declared.halt.Halt.{Halt}
use Rattle.sn_app.specs.declared.halt.Halt.TheVariants.{OutOfMemory}
use Rattle.sn_app.proofs.Leaving.{runs_gave}
use Rattle.sn_app.proofs.Moving.{sound_as, sound_moved}
use Rattle.sn_app.proofs.Running.{runs_as, runs_beside, runs_bind, runs_fail, runs_pure}
use Rattle.sn_kind.specs.Kinds.{kind_stays}
use Rattle.sn_link.specs.Link.{Line}
use Rattle.sn_names.specs.declared.class.Class.{Class}
use Rattle.sn_wiring.specs.Links.{FitsRoster}
use Rattle.sn_names.specs.declared.link.LinkSpec.{LinkSpec}
use Rattle.sn_network.specs.Acting.{acts, changes, freeing, opening, plain_after, taken_or}
use Rattle.sn_network.specs.Nets.{States, set_named}
use Rattle.sn_network.specs.Places.{class_in, kept_in, named_in, net_of, states_in}
use Rattle.sn_network.specs.Standing.{CanRun, Finds, HasPlainApps, HasPlainLinks, IsWiring, Stands, Took, class_of}
use Rattle.sn_network.specs.declared.place.Place.{Place}
use Rattle.sn_network.proofs.GaveUp.{gave_up}
use Rattle.sn_network.proofs.Linked.{links_of_roster, roster_kept}
use Rattle.sn_network.proofs.Pushed.{run_stays, states_stay}
use Rattle.sn_network.proofs.Taken.{Changes, apps_free, apps_new, taken_reconfig, taken_start, taken_stop, taken_wiring}

module _ (action : Action) (plain after : PlainForm) (places new : List Place) (t s : Tray) (u v : Used)
    (slots later : List (Option Line)) where
  -- apps and links did what the action has them do
  pub acted : (r : Result Unit Halt) → OnOk r (apply action plain ≡ Ok after)
      → Runs (changes action (states_in places u t)) (world t u slots) (world s v later) (kept_in places) (kept_in new)
      (stands_at (states_in new v s) r)
      → Runs (acts action (net_of plain places u t)) (world t u slots) (world s v later) (kept_in places) (kept_in new)
      (stands_at (net_of after new v s) r)
  unfolding acts
  acted (Ok done) taken run =
      runs_bind (λ states. pure (record { plain = plain_after action plain; states = states })) run
      (runs_gave (ap (λ p. record { plain = taken_or plain p; states = states_in new v s }) taken)
      (runs_pure (record { plain = plain_after action plain; states = states_in new v s }) (world s v later) (kept_in new)))
  acted (Err halt) taken run =
      runs_fail (λ states. pure (record { plain = plain_after action plain; states = states })) (kept_in new) run

-- what was done to a link is beside all that the apps keep
module _ (places : List Place) (t s : Tray) (u v : Used) (slots later : List (Option Line))
    (h : IsSound (world t u slots) (kept_in places)) where
  beside_apps : {m : Meaning Unit} (r : Result Unit Halt) → Runs m (world t u slots) (world s v later) nowhere nowhere r
      → Runs (m >> pure (states_in places u t)) (world t u slots) (world s v later) (kept_in places) (kept_in places)
      (stands_at (states_in places v s) r)
  beside_apps (Ok done) run =
      runs_bind (λ _. pure (states_in places u t))
      (runs_as (kept_in places) (kept_in places) (λ q. omega arith) (λ q. omega arith) (runs_beside (kept_in places) run))
      (runs_gave (sym (states_stay places u v t s (run_stays t s u v slots later run)
      (λ place k. (run.moves tt refl).kept (kept_in places) (sound_as (λ q. omega arith) h) place k)))
      (runs_pure (states_in places u t) (world s v later) (kept_in places)))
  beside_apps (Err halt) run =
      runs_fail (λ _. pure (states_in places u t)) (kept_in places)
      (runs_as (kept_in places) (kept_in places) (λ q. omega arith) (λ q. omega arith) (runs_beside (kept_in places) run))

  pub freed_beside : (link : LinkSpec) (r : Result Unit Halt)
      → Runs (freeing link) (world t u slots) (world s v later) nowhere nowhere r
      → Runs (changes (FreeLink link) (states_in places u t)) (world t u slots) (world s v later) (kept_in places)
      (kept_in places)
      (stands_at (states_in places v s) r)
  unfolding changes
  freed_beside link r run = beside_apps r run

  pub opened_beside : (link : LinkSpec) (r : Result Unit Halt)
      → Runs (opening link) (world t u slots) (world s v later) nowhere nowhere r
      → Runs (changes (NewLink link) (states_in places u t)) (world t u slots) (world s v later) (kept_in places) (kept_in places)
      (stands_at (states_in places v s) r)
  unfolding changes
  opened_beside link r run = beside_apps r run

-- nothing was done to apps and links
pub changed_none : (action : Action) (places : List Place) (t : Tray) (u : Used) (slots : List (Option Line))
    → ((states : States) → changes action states ≡ pure states)
    → Runs (changes action (states_in places u t)) (world t u slots) (world t u slots) (kept_in places) (kept_in places)
    (Ok (states_in places u t))
changed_none action places t u slots none =
    subst (λ m. Runs m (world t u slots) (world t u slots) (kept_in places) (kept_in places) (Ok (states_in places u t)))
    (sym (none (states_in places u t))) (runs_pure (states_in places u t) (world t u slots) (kept_in places))

-- THE NETWORK STANDS

-- the same apps can run after others' calls
can_run_yet : (places : List Place) (t s : Tray) → Stays t s → CanRun places t → CanRun places s
can_run_yet places t s stays ready j x there = kind_stays x.kind t s stays (ready j x there)

same_classes : (places : List Place) (plain after : PlainForm) (t : Tray) → HasPlainApps places plain t
    → class_of after ≡ class_of plain
    → (name : List ℕ) → class_in places name ≡ class_of after name
same_classes places plain after t has same name = has.classes name ∙ sym (ap (λ f. f name) same)

-- links of the same roster
fits_of_roster : {slots : List (Option Line)} {roster other : List LinkSpec} → other ≡ roster → FitsRoster roster slots
    → FitsRoster other slots
fits_of_roster {slots} same h = subst (λ r. FitsRoster r slots) (sym same) h

-- apps changed, and no link did
module _ (action : Action) (plain after : PlainForm) (places new : List Place) (slots : List (Option Line)) (t s : Tray)
    (u v : Used)
    (stands : Stands places slots plain t u) where
  pub took_apps : (classes : List ℕ → Option Class) (r : Result Unit Halt)
      → Runs (changes action (states_in places u t)) (world t u slots) (world s v slots) (kept_in places) (kept_in new)
      (stands_at (states_in new v s) r)
      → OnOk r (apply action plain ≡ Ok after) → OnOk r (IsConsistent plain → IsConsistent after)
      → OnOk r ((n : List ℕ) → named_in n new ≤ 1) → OnOk r (CanRun new s) → OnOk r (class_in new ≡ classes)
      → OnOk r (Changes plain after classes) → Took action plain after places new slots slots t s u v r
  took_apps classes r run taken consistent once ready in_new changed =
      record {
        runs = acted action plain after places new t s u v slots slots r taken run;
        taken = taken;
        stands = by r run consistent once ready in_new changed;
        fits = fits_of_roster (roster_kept t s u v slots slots run) stands.links.fits;
      }
    where
      by : (r : Result Unit Halt)
          → Runs (changes action (states_in places u t)) (world t u slots) (world s v slots) (kept_in places) (kept_in new)
          (stands_at (states_in new v s) r)
          → OnOk r (IsConsistent plain → IsConsistent after)
          → OnOk r ((n : List ℕ) → named_in n new ≤ 1) → OnOk r (CanRun new s) → OnOk r (class_in new ≡ classes)
          → OnOk r (Changes plain after classes) → OnOk r (Stands new slots after s v)
      by (Ok done) run consistent once ready in_new changed = record {
        apps = record { once = once; classes = λ name. ap (λ f. f name) (in_new ∙ sym changed.classed); ready = ready };
        links = links_of_roster (roster_kept t s u v slots slots run)
            (subst (λ links. HasPlainLinks slots links (roster_of t).links) (sym changed.links) stands.links);
        consistent = consistent stands.consistent;
        sound = sound_moved (run.moves (states_in new v s) refl) stands.sound;
      }
      by (Err halt) run consistent once ready in_new changed = tt

-- links changed, and no app did
module _ (action : Action) (plain after : PlainForm) (places : List Place) (slots later : List (Option Line)) (t s : Tray)
    (u v : Used)
    (stands : Stands places slots plain t u) where
  pub took_links : (r : Result Unit Halt)
      → Runs (changes action (states_in places u t)) (world t u slots) (world s v later) (kept_in places) (kept_in places)
      (stands_at (states_in places v s) r)
      → OnOk r (apply action plain ≡ Ok after) → OnOk r (IsConsistent plain → IsConsistent after)
      → OnOk r (class_of after ≡ class_of plain) → OnOk r (HasPlainLinks later after.links (roster_of s).links)
      → FitsRoster (roster_of s).links later → Took action plain after places places slots later t s u v r
  took_links r run taken consistent classes links fits =
      record {
        runs = acted action plain after places places t s u v slots later r taken run;
        taken = taken;
        stands = by r run consistent classes links;
        fits = fits;
      }
    where
      by : (r : Result Unit Halt)
          → Runs (changes action (states_in places u t)) (world t u slots) (world s v later) (kept_in places) (kept_in places)
          (stands_at (states_in places v s) r)
          → OnOk r (IsConsistent plain → IsConsistent after)
          → OnOk r (class_of after ≡ class_of plain) → OnOk r (HasPlainLinks later after.links (roster_of s).links)
          → OnOk r (Stands places later after s v)
      by (Ok done) run consistent classes links = record {
        apps = record {
          once = stands.apps.once;
          classes = same_classes places plain after t stands.apps classes;
          ready = can_run_yet places t s (run_stays t s u v slots later run) stands.apps.ready;
        };
        links = links;
        consistent = consistent stands.consistent;
        sound = sound_moved (run.moves (states_in places v s) refl) stands.sound;
      }
      by (Err halt) run consistent classes links = tt

-- the ports' links alone changed
wiring_changes : (action : Action) → IsWiring action → (states : States) → changes action states ≡ pure states
unfolding changes
wiring_changes (UnlinkOutput link) is states = refl
wiring_changes (UnlinkInput link) is states = refl
wiring_changes (LinkOutput link) is states = refl
wiring_changes (LinkInput link) is states = refl
wiring_changes (FreeLink link) is states = absurd is
wiring_changes (NewLink link) is states = absurd is
wiring_changes (StopApp name) is states = absurd is
wiring_changes (StartApp name spec) is states = absurd is
wiring_changes (ReconfigApp name spec) is states = absurd is
wiring_changes Commit is states = absurd is

pub took_wiring : (action : Action) (plain after : PlainForm) (places : List Place) (slots : List (Option Line)) (t : Tray)
    (u : Used)
    → Stands places slots plain t u → IsWiring action → apply action plain ≡ Ok after → (IsConsistent plain → IsConsistent after)
    → Took action plain after places places slots slots t t u u (Ok tt)
took_wiring action plain after places slots t u stands is taken consistent =
    took_apps action plain after places places slots t t u u stands (class_of plain) (Ok tt)
    (changed_none action places t u slots (wiring_changes action is)) taken consistent stands.apps.once stands.apps.ready
    (fun_ext stands.apps.classes) (taken_wiring action is plain after taken)

-- memory was refused before anything was done
pub took_none : (action : Action) (plain after : PlainForm) (places : List Place) (slots : List (Option Line)) (t : Tray)
    (u : Used)
    → Stands places slots plain t u → Took action plain after places places slots slots t t u u (Err OutOfMemory)
took_none action plain after places slots t u stands = record {
  runs = gave_up (acts action (net_of plain places u t)) (world t u slots) (kept_in places) (kept_in places);
  taken = tt;
  stands = tt;
  fits = stands.links.fits;
}

-- as an answer has it
pub took_wiring_at : (action : Action) (plain after : PlainForm) (places : List Place) (slots : List (Option Line)) (t : Tray)
    (u : Used)
    (r : Result Unit Halt) → Stands places slots plain t u → IsWiring action → OnOk r (apply action plain ≡ Ok after)
    → OnOk r (IsConsistent plain → IsConsistent after) → OnErr r (r ≡ Err OutOfMemory)
    → Took action plain after places places slots slots t t u u r
took_wiring_at action plain after places slots t u (Ok done) stands is taken consistent memory =
    took_wiring action plain after places slots t u stands is taken consistent
took_wiring_at action plain after places slots t u (Err halt) stands is taken consistent memory =
    subst (λ r. Took action plain after places places slots slots t t u u r) (sym memory)
    (took_none action plain after places slots t u stands)

-- a link went
pub took_free : (action : Action) (plain after : PlainForm) (places : List Place) (slots later : List (Option Line)) (t s : Tray)
    (u v : Used)
    (link : LinkSpec) (r : Result Unit Halt) → Stands places slots plain t u → action ≡ FreeLink link
    → Runs (freeing link) (world t u slots) (world s v later) nowhere nowhere r
    → OnOk r (apply action plain ≡ Ok after) → OnOk r (IsConsistent plain → IsConsistent after)
    → OnOk r (HasPlainLinks later after.links (roster_of s).links) → FitsRoster (roster_of s).links later
    → Took action plain after places places slots later t s u v r
took_free action plain after places slots later t s u v link r stands is run taken consistent links fits =
    took_links action plain after places slots later t s u v stands r
    (subst (λ a. Runs (changes a (states_in places u t)) (world t u slots) (world s v later) (kept_in places) (kept_in places)
    (stands_at (states_in places v s) r)) (sym is) (freed_beside places t s u v slots later stands.sound link r run))
    taken consistent (by r taken) links fits
  where
    by : (r : Result Unit Halt) → OnOk r (apply action plain ≡ Ok after) → OnOk r (class_of after ≡ class_of plain)
    by (Ok done) taken = apps_free link plain after (ap (λ a. apply a plain) (sym is) ∙ taken)
    by (Err halt) taken = tt

-- a link came
pub took_new : (action : Action) (plain after : PlainForm) (places : List Place) (slots later : List (Option Line)) (t s : Tray)
    (u v : Used)
    (link : LinkSpec) (r : Result Unit Halt) → Stands places slots plain t u → action ≡ NewLink link
    → Runs (opening link) (world t u slots) (world s v later) nowhere nowhere r
    → OnOk r (apply action plain ≡ Ok after) → OnOk r (IsConsistent plain → IsConsistent after)
    → OnOk r (HasPlainLinks later after.links (roster_of s).links) → FitsRoster (roster_of s).links later
    → Took action plain after places places slots later t s u v r
took_new action plain after places slots later t s u v link r stands is run taken consistent links fits =
    took_links action plain after places slots later t s u v stands r
    (subst (λ a. Runs (changes a (states_in places u t)) (world t u slots) (world s v later) (kept_in places) (kept_in places)
    (stands_at (states_in places v s) r)) (sym is) (opened_beside places t s u v slots later stands.sound link r run))
    taken consistent (by r taken) links fits
  where
    by : (r : Result Unit Halt) → OnOk r (apply action plain ≡ Ok after) → OnOk r (class_of after ≡ class_of plain)
    by (Ok done) taken = apps_new link plain after (ap (λ a. apply a plain) (sym is) ∙ taken)
    by (Err halt) taken = tt

on_ok : {A : Type 0} (r : Result Unit Halt) → A → OnOk r A
on_ok (Ok done) x = x
on_ok (Err halt) x = tt

-- an app started, stopped, or took a new argument
module _ (action : Action) (plain after : PlainForm) (places new : List Place) (slots : List (Option Line)) (t s : Tray)
    (u v : Used)
    (stands : Stands places slots plain t u) (taken : apply action plain ≡ Ok after)
    (consistent : IsConsistent plain → IsConsistent after)
    (r : Result Unit Halt) where
  here : {A : Type 0} → A → OnOk r A
  here x = on_ok r x

  pub took_start : (name : List ℕ) (spec : AppSpec) → action ≡ StartApp name spec
      → Runs (changes (StartApp name spec) (states_in places u t)) (world t u slots) (world s v slots) (kept_in places)
      (kept_in new)
      (stands_at (states_in new v s) r)
      → OnOk r (((n : List ℕ) → named_in n places ≤ 1) → (n : List ℕ) → named_in n new ≤ 1) → OnOk r (CanRun new s)
      → OnOk r (class_in new ≡ set_named name (Some spec.class) (class_in places))
      → Took action plain after places new slots slots t s u v r
  took_start name spec is run once ready classes =
      took_apps action plain after places new slots t s u v stands (set_named name (Some spec.class) (class_of plain)) r
      (subst (λ a. Runs (changes a (states_in places u t)) (world t u slots) (world s v slots) (kept_in places) (kept_in new)
      (stands_at (states_in new v s) r)) (sym is) run)
      (here taken) (here consistent) (by_once r once) ready (by_classes r classes)
      (here (taken_start name spec plain after (ap (λ a. apply a plain) (sym is) ∙ taken)).changes)
    where
      by_once : (r : Result Unit Halt) → OnOk r (((n : List ℕ) → named_in n places ≤ 1) → (n : List ℕ) → named_in n new ≤ 1)
          → OnOk r ((n : List ℕ) → named_in n new ≤ 1)
      by_once (Ok done) f = f stands.apps.once
      by_once (Err halt) f = tt

      by_classes : (r : Result Unit Halt) → OnOk r (class_in new ≡ set_named name (Some spec.class) (class_in places))
          → OnOk r (class_in new ≡ set_named name (Some spec.class) (class_of plain))
      by_classes (Ok done) e = e ∙ ap (set_named name (Some spec.class)) (fun_ext stands.apps.classes)
      by_classes (Err halt) e = tt

  pub took_stop : (name : List ℕ) → action ≡ StopApp name
      → Runs (changes (StopApp name) (states_in places u t)) (world t u slots) (world s v slots) (kept_in places) (kept_in new)
      (stands_at (states_in new v s) r)
      → ((n : List ℕ) → named_in n new ≤ 1) → OnOk r (CanRun new s)
      → class_in new ≡ set_named name None (class_in places) → Took action plain after places new slots slots t s u v r
  took_stop name is run once ready classes =
      took_apps action plain after places new slots t s u v stands (set_named name None (class_of plain)) r
      (subst (λ a. Runs (changes a (states_in places u t)) (world t u slots) (world s v slots) (kept_in places) (kept_in new)
      (stands_at (states_in new v s) r)) (sym is) run)
      (here taken) (here consistent) (here once) ready
      (here (classes ∙ ap (set_named name None) (fun_ext stands.apps.classes)))
      (here (taken_stop name plain after (ap (λ a. apply a plain) (sym is) ∙ taken)).changes)

  pub took_reconfig : (name : List ℕ) (spec : AppSpec) → action ≡ ReconfigApp name spec
      → Runs (changes (ReconfigApp name spec) (states_in places u t)) (world t u slots) (world s v slots) (kept_in places)
      (kept_in new)
      (stands_at (states_in new v s) r)
      → ((n : List ℕ) → named_in n new ≤ 1) → OnOk r (CanRun new s)
      → class_in new ≡ class_in places → Took action plain after places new slots slots t s u v r
  took_reconfig name spec is run once ready classes =
      took_apps action plain after places new slots t s u v stands (class_of plain) r
      (subst (λ a. Runs (changes a (states_in places u t)) (world t u slots) (world s v slots) (kept_in places) (kept_in new)
      (stands_at (states_in new v s) r)) (sym is) run)
      (here taken) (here consistent) (here once) ready
      (here (classes ∙ fun_ext stands.apps.classes))
      (here (taken_reconfig name spec plain after (ap (λ a. apply a plain) (sym is) ∙ taken)).changes)

-- what an app's action asks for
pub start_absent : (action : Action) (plain after : PlainForm) (places : List Place) (t : Tray) (name : List ℕ) (spec : AppSpec)
    → HasPlainApps places plain t → apply action plain ≡ Ok after → action ≡ StartApp name spec → class_in places name ≡ None
start_absent action plain after places t name spec has taken is =
    has.classes name ∙ (taken_start name spec plain after (ap (λ a. apply a plain) (sym is) ∙ taken)).absent

pub stop_there : (action : Action) (plain after : PlainForm) (places : List Place) (t : Tray) (name : List ℕ)
    → HasPlainApps places plain t → apply action plain ≡ Ok after → action ≡ StopApp name → IsSome (class_in places name)
stop_there action plain after places t name has taken is =
    subst (λ o. IsSome o) (sym (has.classes name)) (taken_stop name plain after (ap (λ a. apply a plain) (sym is) ∙ taken)).there

pub reconfig_class : (action : Action) (plain after : PlainForm) (places : List Place) (t : Tray) (name : List ℕ) (spec : AppSpec)
    → HasPlainApps places plain t → apply action plain ≡ Ok after → action ≡ ReconfigApp name spec
    → class_in places name ≡ Some spec.class
reconfig_class action plain after places t name spec has taken is =
    has.classes name ∙ (taken_reconfig name spec plain after (ap (λ a. apply a plain) (sym is) ∙ taken)).there

-- what the apps keep is kept
pub all_kept : (places : List Place) (t : Tray) (u : Used) (slots : List (Option Line))
    → IsSound (world t u slots) (kept_in places)
    → AreKept u (kept_in places)
all_kept places t u slots h = record {
  once = λ place. let o = h.once place in omega (arith, o);
  in_use = λ place k. h.in_use place (omega (arith, k));
}

-- what a start or a new argument finds
pub found_start : (action : Action) (t : Tray) (name : List ℕ) (spec : AppSpec) → action ≡ StartApp name spec → Finds action t
    → HasName (roster_of t).apps name × (IsArgOf spec.class spec.arg × ArgIsThere spec.class spec.arg t)
found_start action t name spec is found = subst (λ a. Finds a t) is found

pub found_reconfig : (action : Action) (t : Tray) (name : List ℕ) (spec : AppSpec) → action ≡ ReconfigApp name spec
    → Finds action t
    → IsArgOf spec.class spec.arg × ArgIsThere spec.class spec.arg t
found_reconfig action t name spec is found = subst (λ a. Finds a t) is found

pub found_new : (action : Action) (t : Tray) (link : LinkSpec) → action ≡ NewLink link → Finds action t
    → HasLink (roster_of t).links link
found_new action t link is found = subst (λ a. Finds a t) is found
