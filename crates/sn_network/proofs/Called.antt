-- One app of a network is called: what the network is then, and that it stands.
use Rattle.std.proofs.Common.{◌≡◌, ◌≢◌, ℕ, ◌-◌, ◌<◌, ◌≤◌, Bool, true, false, if◌then◌else◌, bytes_eq, List, set, slice_get}
use Rattle.std.proofs.Common.{Option, Some, Result, Ok, Err, OnOk, refl, sym, ap, subst, ◌∙◌, arith, inl, inr}
use mathlib.Core.Path.{fun_ext}
use Rattle.std.proofs.lemmas.Bool.{cases_eq, true≢false}
use Rattle.std.specs.Option.{option_map}
use Rattle.sn_actions.specs.PlainForms.{PlainForm}
use Rattle.sn_app.specs.Answers.{Stays}
use Rattle.sn_app.specs.Apps.{AppState}
use Rattle.sn_app.specs.Desk.{Tray, roster_of}
use Rattle.sn_app.specs.Ports.{KeepsRows, rows_of}
use Rattle.sn_app.specs.Reader.{Meaning, pure}
use Rattle.sn_app.specs.Runs.{Moves, Runs, stands_at}
use Rattle.sn_app.specs.World.{IsSound, Used, desk_of, world, ◌⊕◌}
use Rattle.sn_app.specs.declared.halt.Halt.{Halt}
use Rattle.sn_app.proofs.Leaving.{runs_gave}
use Rattle.sn_app.proofs.Moving.{moves_beside, sound_as, sound_moved}
use Rattle.sn_app.proofs.Running.{runs_as, runs_beside, runs_bind, runs_fail, runs_look, runs_pure}
use Rattle.sn_kind.specs.Kinds.{kind_can_run, kind_class, kind_keeps, kind_places, kind_state, kind_stays}
use Rattle.sn_link.specs.Link.{Line}
use Rattle.sn_wiring.proofs.Fits.{fits_stays, keeps_same, lines_stay}
use Rattle.sn_wiring.proofs.Staying.{wired_stays}
use Rattle.sn_wiring.specs.Wired.{Wired, ports_of}
use Rattle.sn_network.specs.Calling.{call, calling, done_by}
use Rattle.sn_network.specs.Nets.{Net, set_named, with_state}
use Rattle.sn_network.specs.Places.{class_in, kept_in, named_in, net_of, states_in}
use Rattle.sn_network.specs.Standing.{AreWired, CanRun, HasPlainLinks, Stands, name_in}
use Rattle.sn_network.specs.declared.verb.Verb.{Verb}
use Rattle.sn_network.specs.declared.place.Place.{Place}
use Rattle.sn_network.proofs.Found.{found_as, found_at, found_set_other, named_set, same_bytes}
use Rattle.sn_network.proofs.Sums.{get_set, get_set_other, one_within, sum_set, the_same, two_within}

-- what the other apps keep
abbrev pub rest_of : List Place → Place → ℕ → ℕ
rest_of places p place = kept_in places place - kind_places p.kind place

-- what is kept is what one app keeps and the rest
pub kept_parts : (places : List Place) (i : ℕ) (p : Place) → slice_get places i ≡ Some p
    → (place : ℕ) → kept_in places place ≡ (kind_places p.kind ⊕ rest_of places p) place
unfolding kept_in
kept_parts places i p here place =
    let h = one_within (λ (app : Place). kind_places app.kind place) places i p here in
    let r : rest_of places p place ≡ kept_in places place - kind_places p.kind place = refl in
    omega (arith, h, r)

module _ (places : List Place) (i : ℕ) (p q : Place) (here : slice_get places i ≡ Some p) (same : q.name ≡ p.name)
    (once : (name : List ℕ) → named_in name places ≤ 1) where
  kept_before : (place : ℕ) → kept_in places place ≡ (kind_places p.kind ⊕ rest_of places p) place
  kept_before place = kept_parts places i p here place

  pub kept_after : (place : ℕ) → kept_in (set places i q) place ≡ (kind_places q.kind ⊕ rest_of places p) place
  unfolding kept_in
  kept_after place =
      let h = one_within (λ (app : Place). kind_places app.kind place) places i p here in
      let s = sum_set (λ (app : Place). kind_places app.kind place) places i p q here in
      let r : rest_of places p place ≡ kept_in places place - kind_places p.kind place = refl in
      omega (arith, h, s, r)

  others_kept : (j : ℕ) (x : Place) (place : ℕ) → j ≢ i → slice_get places j ≡ Some x → 0 < kind_places x.kind place
      → 0 < rest_of places p place
  unfolding kept_in
  others_kept j x place apart there k =
      let h = two_within (λ (app : Place). kind_places app.kind place) places i j p x (λ e. apart (sym e)) here there in
      let r : rest_of places p place ≡ kept_in places place - kind_places p.kind place = refl in
      omega (arith, h, k, r)

  -- each name has the state that it had, but the called one
  pub states_after : (u v : Used) (t s : Tray) → Stays t s → ((place : ℕ) → 0 < rest_of places p place → v place ≡ u place)
      → states_in (set places i q) v s ≡ set_named p.name (Some (kind_state q.kind v s)) (states_in places u t)
  states_after u v t s stays kept = fun_ext (λ name. by name (bytes_eq name p.name) refl)
    where
      now : Place → AppState
      now place = kind_state place.kind v s

      agrees : (name : List ℕ) → bytes_eq name p.name ≡ false → (j : ℕ) (x : Place) → slice_get places j ≡ Some x
          → bytes_eq name x.name ≡ true → kind_state x.kind v s ≡ kind_state x.kind u t
      agrees name e j x there is =
          kind_keeps x.kind u v t s stays (λ place k. kept place (others_kept j x place
          (λ j_is. true≢false (sym is
          ∙ (ap (λ (y : Place). bytes_eq name y.name) (the_same (sym there ∙ ap (slice_get places) j_is ∙ here)) ∙ e)))
          there k))

      by : (name : List ℕ) (b : Bool) → bytes_eq name p.name ≡ b
          → states_in (set places i q) v s name ≡ set_named p.name (Some (kind_state q.kind v s)) (states_in places u t) name
      by name true e =
          let one : named_in q.name (set places i q) ≤ 1 =
          subst (λ n. n ≤ 1) (sym (named_set places i p q q.name here same)) (once q.name) in
          ap (states_in (set places i q) v s) (same_bytes name p.name e ∙ sym same)
          ∙ (found_at now (set places i q) i q (get_set places i p q here) one
          ∙ sym (ap (λ b. if b then Some (kind_state q.kind v s) else states_in places u t name) e))
      by name false e =
          found_set_other now places i p q name here same e
          ∙ (found_as (λ (place : Place). kind_state place.kind u t) now places name (agrees name e)
          ∙ sym (ap (λ b. if b then Some (kind_state q.kind v s) else states_in places u t name) e))

  -- each app can run, and has the class that it had
  pub can_run_after : (t s : Tray) → Stays t s → kind_can_run q.kind s → CanRun places t → CanRun (set places i q) s
  can_run_after t s stays ready before j y there = elim (cases_eq j i) [
    | inl e ↦
        let is : q ≡ y = the_same (sym (get_set places i p q here) ∙ (ap (slice_get (set places i q)) (sym e) ∙ there)) in
        subst (λ (z : Place). kind_can_run z.kind s) is ready
    | inr apart ↦ kind_stays y.kind t s stays (before j y (sym (get_set_other places i j q apart) ∙ there))
  ]

  pub class_after : kind_class q.kind ≡ kind_class p.kind → (name : List ℕ)
      → class_in (set places i q) name ≡ class_in places name
  class_after class name = by (bytes_eq name p.name) refl
    where
      by : (b : Bool) → bytes_eq name p.name ≡ b → class_in (set places i q) name ≡ class_in places name
      by true e =
          let one : named_in q.name (set places i q) ≤ 1 =
          subst (λ n. n ≤ 1) (sym (named_set places i p q q.name here same)) (once q.name) in
          ap (class_in (set places i q)) (same_bytes name p.name e ∙ sym same)
          ∙ (found_at (λ (place : Place). kind_class place.kind) (set places i q) i q (get_set places i p q here) one
          ∙ (ap Some class
          ∙ sym (ap (class_in places) (same_bytes name p.name e)
          ∙ found_at (λ (place : Place). kind_class place.kind) places i p here (once p.name))))
      by false e = found_set_other (λ (place : Place). kind_class place.kind) places i p q name here same e

  pub once_after : (name : List ℕ) → named_in name (set places i q) ≤ 1
  once_after name = subst (λ n. n ≤ 1) (sym (named_set places i p q name here same)) (once name)

  -- all names stay
  pub names_called : (j : ℕ) → name_in (set places i q) j ≡ name_in places j
  names_called j = elim (cases_eq j i) [
    | inl e ↦
        ap (name_in (set places i q)) e
        ∙ (ap (λ slot. option_map (λ (place : Place). place.name) slot) (get_set places i p q here)
        ∙ (ap Some same
        ∙ (sym (ap (λ slot. option_map (λ (place : Place). place.name) slot) here) ∙ sym (ap (name_in places) e))))
    | inr apart ↦ ap (λ slot. option_map (λ (place : Place). place.name) slot) (get_set_other places i j q apart)
  ]

  module _ (t s : Tray) (u v : Used) (slots later : List (Option Line)) (h : IsSound (world t u slots) (kept_in places)) where
    moves_kept : Moves (world t u slots) (world s v later) (kind_places p.kind) (kind_places q.kind)
        → (place : ℕ) → 0 < rest_of places p place → v place ≡ u place
    moves_kept moves place k = moves.kept (rest_of places p) (sound_as kept_before' h) place k
      where
        kept_before' : (place : ℕ) → (kind_places p.kind ⊕ rest_of places p) place ≡ kept_in places place
        kept_before' place = sym (kept_before place)

    -- the run of the app's row is that of the network's
    runs_called : (verb : Verb) (plain : PlainForm) (ins outs : List (List ℕ × ℕ)) (r : Result Unit Halt)
        → Wired slots (roster_of t).links plain.ins p.name ins → Wired slots (roster_of t).links plain.outs p.name outs
        → Runs (done_by verb (kind_state p.kind u t) (rows_of slots ins) (rows_of slots outs)) (world t u slots) (world s v later)
        (kind_places p.kind) (kind_places q.kind) (stands_at (kind_state q.kind v s) r)
        → Runs (call verb p.name (net_of plain places u t)) (world t u slots) (world s v later)
        (kept_in places) (kept_in (set places i q)) (stands_at (net_of plain (set places i q) v s) r)
    unfolding call calling desk_of
    runs_called verb plain ins outs r wired_ins wired_outs run =
        runs_look _ (subst (λ (state : Option AppState).
        Runs (calling verb state p.name ins_now outs_now net) (world t u slots) (world s v later)
        (kept_in places) (kept_in (set places i q)) (stands_at (net_of plain (set places i q) v s) r))
        (sym (found_at (λ (place : Place). kind_state place.kind u t) places i p here (once p.name)))
        (by r (subst (λ rows. Runs (done_by verb (kind_state p.kind u t) rows outs_now) (world t u slots) (world s v later)
        (kept_in places) (kept_in (set places i q)) (stands_at (kind_state q.kind v s) r)) wired_ins.rows
        (subst (λ rows. Runs (done_by verb (kind_state p.kind u t) (rows_of slots ins) rows) (world t u slots) (world s v later)
        (kept_in places) (kept_in (set places i q)) (stands_at (kind_state q.kind v s) r)) wired_outs.rows
        (runs_as (kept_in places) (kept_in (set places i q)) kept_before kept_after (runs_beside (rest_of places p) run))))
        (λ x e. moves_kept (run.moves x e)) run.answers.stays))
      where
        net : Net
        net = net_of plain places u t

        ins_now : List (List ℕ × ℕ)
        ins_now = ports_of (roster_of t).links plain.ins p.name

        outs_now : List (List ℕ × ℕ)
        outs_now = ports_of (roster_of t).links plain.outs p.name

        by : (r : Result Unit Halt)
            → Runs (done_by verb (kind_state p.kind u t) ins_now outs_now) (world t u slots) (world s v later)
            (kept_in places) (kept_in (set places i q)) (stands_at (kind_state q.kind v s) r)
            → ((x : AppState) → stands_at (kind_state q.kind v s) r ≡ Ok x → (place : ℕ) → 0 < rest_of places p place
            → v place ≡ u place)
            → Stays t s
            → Runs (calling verb (Some (kind_state p.kind u t)) p.name ins_now outs_now net) (world t u slots) (world s v later)
            (kept_in places) (kept_in (set places i q)) (stands_at (net_of plain (set places i q) v s) r)
        by (Ok done) whole kept stays =
            let later_states : states_in (set places i q) v s
            ≡ set_named p.name (Some (kind_state q.kind v s)) (states_in places u t) =
            states_after u v t s stays (kept (kind_state q.kind v s) refl) in
            runs_bind (λ state. pure (with_state p.name (Some state) net)) whole
            (runs_gave (ap (λ states. record { plain = plain; states = states }) (sym later_states))
            (runs_pure (with_state p.name (Some (kind_state q.kind v s)) net) (world s v later) (kept_in (set places i q))))
        by (Err halt) whole kept stays =
            runs_fail (λ state. pure (with_state p.name (Some state) net)) (kept_in (set places i q)) whole

    -- by the name that stands at the place
    pub runs_named : (verb : Verb) (plain : PlainForm) (ins outs : List (List ℕ × ℕ)) (r : Result Unit Halt) (name : List ℕ)
        → name_in places i ≡ Some name
        → Wired slots (roster_of t).links plain.ins p.name ins → Wired slots (roster_of t).links plain.outs p.name outs
        → Runs (done_by verb (kind_state p.kind u t) (rows_of slots ins) (rows_of slots outs)) (world t u slots) (world s v later)
        (kind_places p.kind) (kind_places q.kind) (stands_at (kind_state q.kind v s) r)
        → Runs (call verb name (net_of plain places u t)) (world t u slots) (world s v later)
        (kept_in places) (kept_in (set places i q)) (stands_at (net_of plain (set places i q) v s) r)
    runs_named verb plain ins outs r name is wired_ins wired_outs run =
        subst (λ n. Runs (call verb n (net_of plain places u t)) (world t u slots) (world s v later)
        (kept_in places) (kept_in (set places i q)) (stands_at (net_of plain (set places i q) v s) r))
        (the_same (sym (ap (λ slot. option_map (λ (place : Place). place.name) slot) here) ∙ is))
        (runs_called verb plain ins outs r wired_ins wired_outs run)

    -- and the network stands, wired as it was
    module _ {R : Type 0} {m : Meaning R} {x : R} (plain : PlainForm)
        (run : Runs m (world t u slots) (world s v later) (kind_places p.kind) (kind_places q.kind) (Ok x))
        (rows : KeepsRows slots later)
        (ready : kind_can_run q.kind s) (class : kind_class q.kind ≡ kind_class p.kind) where
      stays : Stays t s
      unfolding desk_of
      stays = run.answers.stays

      roster_kept : (roster_of s).links ≡ (roster_of t).links
      roster_kept = ap (λ constants. constants.roster.links) stays.constants

      pub stands_called : Stands places slots plain t u → Stands (set places i q) later plain s v
      stands_called stands = record {
        apps = record {
          once = once_after;
          classes = λ name. class_after class name ∙ stands.apps.classes name;
          ready = can_run_after t s stays ready stands.apps.ready;
        };
        links = subst (λ roster. HasPlainLinks later plain.links roster) (sym roster_kept) (record {
          lines = lines_stay _ slots later plain.links (keeps_same slots later rows) stands.links.lines;
          fits = fits_stays _ slots later (keeps_same slots later rows) stands.links.fits;
          listed = stands.links.listed;
        });
        consistent = stands.consistent;
        sound = sound_as kept_after
            (sound_moved (moves_beside (rest_of places p) (run.moves x refl)) (sound_as (λ place. sym (kept_before place)) h));
      }

      pub wired_called : q.ins ≡ p.ins → q.outs ≡ p.outs → AreWired places slots plain (roster_of t).links
          → AreWired (set places i q) later plain (roster_of s).links
      wired_called ins outs wired =
          subst (λ roster. AreWired (set places i q) later plain roster) (sym roster_kept) (λ j y there. elim (cases_eq j i) [
            | inl e ↦
                let is : q ≡ y = the_same (sym (get_set places i p q here) ∙ (ap (slice_get (set places i q)) (sym e) ∙ there)) in
                subst (λ (z : Place).
                Wired later (roster_of t).links plain.ins z.name z.ins.items
                × Wired later (roster_of t).links plain.outs z.name z.outs.items)
                is (own ins outs (wired i p here))
            | inr apart ↦ both (wired j y (sym (get_set_other places i j q apart) ∙ there))
          ])
        where
          both : {name : List ℕ} {some more : List (List ℕ × ℕ)}
              → Wired slots (roster_of t).links plain.ins name some × Wired slots (roster_of t).links plain.outs name more
              → Wired later (roster_of t).links plain.ins name some × Wired later (roster_of t).links plain.outs name more
          both w = (wired_stays _ _ _ _ _ _ w.0 rows, wired_stays _ _ _ _ _ _ w.1 rows)

          own : q.ins ≡ p.ins → q.outs ≡ p.outs
              → Wired slots (roster_of t).links plain.ins p.name p.ins.items
              × Wired slots (roster_of t).links plain.outs p.name p.outs.items
              → Wired later (roster_of t).links plain.ins q.name q.ins.items
              × Wired later (roster_of t).links plain.outs q.name q.outs.items
          own a b w =
              let n = both w in (
                subst (λ name. Wired later (roster_of t).links plain.ins name q.ins.items) (sym same)
                    (subst (λ ports. Wired later (roster_of t).links plain.ins p.name ports.items) (sym a) n.0),
                subst (λ name. Wired later (roster_of t).links plain.outs name q.outs.items) (sym same)
                    (subst (λ ports. Wired later (roster_of t).links plain.outs p.name ports.items) (sym b) n.1),
              )

    -- as the call's answer has it
    pub stands_after : {m : Meaning AppState} (plain : PlainForm) (r : Result Unit Halt)
        → Runs m (world t u slots) (world s v later) (kind_places p.kind) (kind_places q.kind)
        (stands_at (kind_state q.kind v s) r)
        → KeepsRows slots later → OnOk r (kind_can_run q.kind s) → kind_class q.kind ≡ kind_class p.kind
        → Stands places slots plain t u → OnOk r (Stands (set places i q) later plain s v)
    stands_after plain (Ok done) run rows ready class stands = stands_called plain run rows ready class stands
    stands_after plain (Err halt) run rows ready class stands = tt

    pub wired_after : {m : Meaning AppState} (plain : PlainForm) (r : Result Unit Halt)
        → Runs m (world t u slots) (world s v later) (kind_places p.kind) (kind_places q.kind)
        (stands_at (kind_state q.kind v s) r)
        → KeepsRows slots later → OnOk r (kind_can_run q.kind s) → kind_class q.kind ≡ kind_class p.kind
        → q.ins ≡ p.ins → q.outs ≡ p.outs → AreWired places slots plain (roster_of t).links
        → OnOk r (AreWired (set places i q) later plain (roster_of s).links)
    wired_after plain (Ok done) run rows ready class ins outs wired = wired_called plain run rows ready class ins outs wired
    wired_after plain (Err halt) run rows ready class ins outs wired = tt

-- the app alone in its world
pub sound_own : (places : List Place) (i : ℕ) (p : Place) (t : Tray) (u : Used) (slots : List (Option Line))
    → slice_get places i ≡ Some p → IsSound (world t u slots) (kept_in places) → IsSound (world t u slots) (kind_places p.kind)
unfolding kept_in
sound_own places i p t u slots here h =
    record {
      once = λ place.
          let w = one_within (λ (app : Place). kind_places app.kind place) places i p here in let o = h.once place in
          omega (arith, w, o);
      in_use = λ place k.
          let w = one_within (λ (app : Place). kind_places app.kind place) places i p here in
          h.in_use place (omega (arith, w, k));
      lengths = h.lengths;
      rows = h.rows;
    }
