-- What a worker's plan names is there, where the context has the worker's roster.
use Rattle.std.proofs.Common.{◌≡◌, ◌<◌, ℕ, zero, suc, Bool, true, false, bytes_eq, List, [], ◌∷◌, get_or, length}
use Rattle.std.proofs.Common.{All, IsTrue, Some, refl, sym, ap, subst, slice_get, ◌∙◌, arith}
use Rattle.std.specs.Prelude.{Contains}
use Rattle.std.specs.List.{position_or_len}
use Rattle.std.proofs.lemmas.List.Elements.{All-get_or}
use Rattle.std.proofs.lemmas.Option.{get_or_from_slice_get, slice_get_within}
use Rattle.std.proofs.lemmas.Slice.Eq.{bytes_eq-Decides}
use Rattle.sn_actions.specs.declared.action.Action.{Action}
use Rattle.sn_actions.specs.declared.action.Action.TheVariants.{NewLink, ReconfigApp}
use Rattle.sn_actions.specs.declared.action.Action.TheVariants.{StartApp}
use Rattle.sn_app.specs.Calls.{HasLink, HasName, row_of, same_link}
use Rattle.sn_app.specs.Desk.{Tray}
use Rattle.sn_app.specs.Starts.{ArgIsThere}
use Rattle.sn_config.specs.ArgText.{IsArgOf}
use Rattle.sn_config.specs.declared.app_spec.AppSpec.{AppSpec}
use Rattle.sn_core.specs.declared.events.Side.TheVariants.{Rx, Tx}
use Rattle.sn_names.specs.Rosters.{RosterRows}
use Rattle.sn_names.specs.declared.arg.Arg.{Arg}
use Rattle.sn_names.specs.declared.arg.Arg.TheVariants.{Byte, File, Lane, Nothing, Number}
use Rattle.sn_names.specs.declared.class.Class.{Class}
use Rattle.sn_names.specs.declared.class.Class.TheVariants.{PcapReader, PcapWriter, Receiver}
use Rattle.sn_names.specs.declared.class.Class.TheVariants.{Transmitter}
use Rattle.sn_names.specs.declared.link.LinkSpec.{LinkSpec}
use Rattle.sn_network.specs.Standing.{Finds}
use Rattle.sn_scenario.specs.AppUses.{reads_file, receives_lane, transmits_lane, writes_file}
use Rattle.sn_scenario.specs.PlanLaws.{IsListed, IsListedApp, TakesOwnEnds, UsesOwnEnds}
use Rattle.sn_scenario.specs.declared.lane.Lane.{Lane as LaneSpec}
use Rattle.sn_worker.specs.Plans.{FindsAll, Serves}

-- the first place of what passes is within the list
within_by : {A : Type 0} (p : A → Bool) (x : A) (xs : List A) (d : A)
    → ((i : ℕ) → i < length xs → p (get_or xs i d) ≡ true → position_or_len p xs < length xs)
    → (b : Bool) → p x ≡ b → (k : ℕ) → k < length (x ∷ xs) → p (get_or (x ∷ xs) k d) ≡ true
    → position_or_len p (x ∷ xs) < length (x ∷ xs)
within_by p x xs d more true e k within passes = rw e (omega arith)
within_by p x xs d more false e zero within passes = absurd (let h = sym e ∙ passes in cc)
within_by p x xs d more false e (suc k) within passes =
    let h = more k (omega (arith, within)) passes in rw e (omega (arith, h))

first_within : {A : Type 0} (p : A → Bool) (xs : List A) (k : ℕ) (d : A) → k < length xs → p (get_or xs k d) ≡ true
    → position_or_len p xs < length xs
first_within p [] k d within passes = absurd (omega (arith, within))
first_within p (x ∷ xs) k d within passes =
    within_by p x xs d (λ i lt there. first_within p xs i d lt there) (p x) refl k within passes

same_name : (name : List ℕ) → bytes_eq name name ≡ true
same_name name = (bytes_eq-Decides name name).1 refl

has_name : (names : List (List ℕ)) (name : List ℕ) → Contains names name → HasName names name
has_name names name c = first_within (bytes_eq name) names c.0 name c.1 (ap (bytes_eq name) c.2 ∙ same_name name)

itself : (link : LinkSpec) → same_link link link ≡ true
itself link = rw (same_name link.from, same_name link.out, same_name link.to, same_name link.input) refl

has_link : (links : List LinkSpec) (link : LinkSpec) → Contains links link → HasLink links link
has_link links link c = first_within (same_link link) links c.0 link c.1 (ap (same_link link) c.2 ∙ itself link)

module _ (rows : RosterRows) (lanes : List LaneSpec) (worker : ℕ) (t : Tray) (serves : Serves rows lanes worker t) where
  arg_there : (class : Class) (arg : Arg) → IsArgOf class arg
      → ((file : List ℕ) → reads_file (record { class = class; arg = arg }) file ≡ true → Contains rows.captures file)
      → ((file : List ℕ) → writes_file (record { class = class; arg = arg }) file ≡ true → Contains rows.files file)
      → ((lane : List ℕ) → receives_lane (record { class = class; arg = arg }) lane ≡ true → Contains rows.lanes lane)
      → ((lane : List ℕ) → transmits_lane (record { class = class; arg = arg }) lane ≡ true → Contains rows.lanes lane)
      → TakesOwnEnds lanes worker (record { class = class; arg = arg }) → ArgIsThere class arg t
  arg_there PcapReader (File name) is reads writes receives transmits own =
      subst (λ (r : RosterRows). HasName r.captures name) (sym serves.roster)
      (has_name rows.captures name (reads name (same_name name)))
  arg_there PcapWriter (File name) is reads writes receives transmits own =
      subst (λ (r : RosterRows). HasName r.files name) (sym serves.roster)
      (has_name rows.files name (writes name (same_name name)))
  arg_there Receiver (Lane name) is reads writes receives transmits own =
      let rows_are : RosterRows → Type 0 =
      λ r. HasName r.lanes name × IsTrue (t.log.constants.has_end (row_of r.lanes name) Rx) in
      subst rows_are (sym serves.roster)
      (has_name rows.lanes name (receives name (same_name name)), serves.receives name (own.receives name (same_name name)))
  arg_there Transmitter (Lane name) is reads writes receives transmits own =
      let rows_are : RosterRows → Type 0 =
      λ r. HasName r.lanes name × IsTrue (t.log.constants.has_end (row_of r.lanes name) Tx) in
      subst rows_are (sym serves.roster)
      (has_name rows.lanes name (transmits name (same_name name)), serves.transmits name (own.transmits name (same_name name)))
  arg_there PcapReader Nothing is reads writes receives transmits own = absurd is
  arg_there PcapReader (Number n) is reads writes receives transmits own = absurd is
  arg_there PcapReader (Byte offset value) is reads writes receives transmits own = absurd is
  arg_there PcapReader (Lane name) is reads writes receives transmits own = absurd is
  arg_there PcapWriter Nothing is reads writes receives transmits own = absurd is
  arg_there PcapWriter (Number n) is reads writes receives transmits own = absurd is
  arg_there PcapWriter (Byte offset value) is reads writes receives transmits own = absurd is
  arg_there PcapWriter (Lane name) is reads writes receives transmits own = absurd is
  arg_there Receiver Nothing is reads writes receives transmits own = absurd is
  arg_there Receiver (Number n) is reads writes receives transmits own = absurd is
  arg_there Receiver (Byte offset value) is reads writes receives transmits own = absurd is
  arg_there Receiver (File name) is reads writes receives transmits own = absurd is
  arg_there Transmitter Nothing is reads writes receives transmits own = absurd is
  arg_there Transmitter (Number n) is reads writes receives transmits own = absurd is
  arg_there Transmitter (Byte offset value) is reads writes receives transmits own = absurd is
  arg_there Transmitter (File name) is reads writes receives transmits own = absurd is
  arg_there _ arg is reads writes receives transmits own = tt

  app_there : (name : List ℕ) (spec : AppSpec) → IsListedApp rows name spec → TakesOwnEnds lanes worker spec
      → ArgIsThere spec.class spec.arg t
  app_there name spec h own =
      arg_there spec.class spec.arg h.arg h.reads h.writes h.receives h.transmits
      (record { receives = own.receives; transmits = own.transmits })

  listed_finds : (action : Action) → IsListed rows action → UsesOwnEnds lanes worker action → Finds action t
  listed_finds (StartApp name spec) h own = (
    subst (λ (r : RosterRows). HasName r.apps name) (sym serves.roster) (has_name rows.apps name h.listed),
    (h.arg, app_there name spec h own),
  )
  listed_finds (ReconfigApp name spec) h own = (h.arg, app_there name spec h own)
  listed_finds (NewLink link) h own =
      subst (λ (r : RosterRows). HasLink r.links link) (sym serves.roster) (has_link rows.links link h)
  listed_finds _ h own = tt

  -- an element of which something holds that holds of all
  of_all : (P : Action → Type 0) (plan : List Action) (i : ℕ) (action : Action) → slice_get plan i ≡ Some action → All P plan
      → P action
  of_all P plan i action there all =
      subst P (get_or_from_slice_get plan i action action there)
      (All-get_or P plan i action (slice_get_within plan i action there) all)

  pub all_found : (plan : List Action) → All (IsListed rows) plan → All (UsesOwnEnds lanes worker) plan → FindsAll plan t
  all_found plan listed own i action there =
      listed_finds action (of_all (IsListed rows) plan i action there listed)
      (of_all (UsesOwnEnds lanes worker) plan i action there own)
