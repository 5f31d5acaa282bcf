-- What the actions of a plan name stands in the roster of its worker.
use Rattle.std.proofs.Common.{All, Bool, Contains, List, Some, [], ap, arith, cond, false, filter, is_some, map, refl, subst, suc, sym, true, ℕ, ◌&&◌, ◌==◌, ◌∙◌, ◌∷◌, ◌≡◌, ◌||◌}
use Rattle.std.proofs.lemmas.Bool.{and_parts}
use Rattle.std.proofs.lemmas.List.Concat.{flat_map-cons}
use Rattle.std.proofs.lemmas.List.Elements.{All-append, All-nil, All-push, recursion_from_All}
use Rattle.std.proofs.lemmas.List.Folds.{list_any-append}
use Rattle.std.proofs.lemmas.Map.Made.{is_some-lookup}
use Rattle.std.proofs.lemmas.Slice.Eq.{bytes_eq-Decides}
use Rattle.std.specs.BTreeMap.{is_at}
use Rattle.std.specs.List.{AllByRecursion, list_any}
use Rattle.std.specs.Map.{keys_of, values_of}
use Rattle.std.specs.Prelude.{flat_map}
use Rattle.std.specs.Str.{bytes_eq}
use Rattle.sn_actions.specs.Diffs.{IsChange, diff_of}
use Rattle.sn_actions.specs.declared.action.Action.{Action}
use Rattle.sn_actions.specs.declared.action.Action.TheVariants.{Commit, FreeLink, LinkInput, LinkOutput, NewLink, ReconfigApp, StartApp, StopApp, UnlinkInput, UnlinkOutput}
use Rattle.sn_config.specs.ArgText.{IsArgOf}
use Rattle.sn_config.specs.Configs.{ConfigForm, app_at, has_app, has_link}
use Rattle.sn_config.specs.declared.app_spec.AppSpec.{AppSpec}
use Rattle.sn_names.specs.LinkOrder.{exact_links, exact_names, link_cmp, link_cmp_total, name_cmp, name_cmp_total}
use Rattle.sn_names.specs.Rosters.{RosterRows}
use Rattle.sn_names.specs.declared.link.LinkSpec.{LinkSpec}
use Rattle.sn_scenario.proofs.KeySets.{all_added, has_key, key_itself, key_there, or_first, or_second}
use Rattle.sn_scenario.proofs.PlanSteps.{plan-cons, plan-nil}
use Rattle.sn_scenario.specs.AppUses.{reads_file, receives_lane, transmits_lane, writes_file}
use Rattle.sn_scenario.specs.ConfigLines.{no_config, of_worker}
use Rattle.sn_scenario.specs.LaneEnds.{leads_from, leads_to}
use Rattle.sn_scenario.specs.PlanLaws.{AreChanged, IsListed, IsListedApp}
use Rattle.sn_scenario.specs.Plans.{all_links, app_names, change_of, configs_of, plan_after, roster_of}
use Rattle.sn_scenario.specs.Scenarios.{IsServed, ScenarioForm}
use Rattle.sn_scenario.specs.declared.lane.Lane.{Lane}
use Rattle.sn_scenario.specs.declared.placed.Placed.{Placed}

-- the roster has the links and apps of a configuration, and what its apps use
record IsCovered (rows : RosterRows) (config : ConfigForm) : Type 0 where
  links : (link : LinkSpec) → has_link config.links link ≡ true → Contains rows.links link
  apps : (name : List ℕ) → has_app config name ≡ true → Contains rows.apps name
  specs : (name : List ℕ) (spec : AppSpec) → app_at config.apps name ≡ Some spec → IsListedApp rows name spec

change_listed : (rows : RosterRows) (before after : ConfigForm) (action : Action) → IsCovered rows before → IsCovered rows after → IsChange before after action → IsListed rows action
change_listed rows before after (UnlinkOutput link) b a h = b.links link h
change_listed rows before after (UnlinkInput link) b a h = b.links link h
change_listed rows before after (FreeLink link) b a h = b.links link h
change_listed rows before after (StopApp name) b a h = b.apps name h
change_listed rows before after (StartApp name spec) b a h = a.specs name spec h
change_listed rows before after (ReconfigApp name spec) b a h = a.specs name spec h
change_listed rows before after (NewLink link) b a h = a.links link h
change_listed rows before after (LinkOutput link) b a h = a.links link h
change_listed rows before after (LinkInput link) b a h = a.links link h
change_listed rows before after Commit b a h = absurd h

plan_listed : (rows : RosterRows) (before : ConfigForm) (configs : List Placed) → IsCovered rows before → AreChanged before configs → AllByRecursion (λ p. IsCovered rows p.config) configs → All (IsListed rows) (plan_after before configs)
plan_listed rows before [] b h c = subst (All (IsListed rows)) (sym (plan-nil before)) (All-nil (IsListed rows))
plan_listed rows before (x ∷ more) b h c =
    subst (All (IsListed rows)) (sym (plan-cons before x more))
    (All-append (IsListed rows) (change_of before x.config) (plan_after x.config more)
    (All-push (IsListed rows) (diff_of before x.config) Commit (λ k d within. change_listed rows before x.config _ b c.0 (h.0.changes k d within)) tt)
    (plan_listed rows x.config more c.0 h.1 c.1))

none_covered : (rows : RosterRows) → IsCovered rows no_config
none_covered rows = record { links = λ l t. absurd cc; apps = λ n t. absurd cc; specs = λ n s t. absurd cc }

-- what a configuration has is among what all have
found_one : {K : Type 0} (p : K → Bool) (keys : Placed → List K) (x : Placed) (xs : List Placed) → list_any p (keys x) ≡ true → list_any p (flat_map keys (x ∷ xs)) ≡ true
found_one p keys x xs t = ap (list_any p) (flat_map-cons keys x xs) ∙ list_any-append p (keys x) (flat_map keys xs) ∙ or_first (list_any p (keys x)) (list_any p (flat_map keys xs)) t

found_more : {K : Type 0} (p : K → Bool) (keys : Placed → List K) (x : Placed) (xs : List Placed) → list_any p (flat_map keys xs) ≡ true → list_any p (flat_map keys (x ∷ xs)) ≡ true
found_more p keys x xs t = ap (list_any p) (flat_map-cons keys x xs) ∙ list_any-append p (keys x) (flat_map keys xs) ∙ or_second (list_any p (keys x)) (list_any p (flat_map keys xs)) t

abbrev links_in : Placed → List LinkSpec
links_in p = p.config.links

abbrev names_in : Placed → List (List ℕ)
names_in p = keys_of p.config.apps

pub value_at : (P : AppSpec → Type 0) (apps : List (List ℕ × AppSpec)) (name : List ℕ) (spec : AppSpec) → All P (values_of apps) → app_at apps name ≡ Some spec → P spec
value_at P [] name spec h t = cc
value_at P (e ∷ apps) name spec h t = by (is_at (name_cmp name) e.0) t (value_at P apps name spec (λ k d within. h (suc k) d (omega arith)))
  where
    by : (b : Bool) → cond b (Some e.1) (app_at apps name) ≡ Some spec → (app_at apps name ≡ Some spec → P spec) → P spec
    by true u more = let same : e.1 ≡ spec = cc in subst P same (h 0 e.1 (omega arith))
    by false u more = more u

led_by : (end : Lane → ℕ) (lanes : List Lane) (worker : ℕ) (name : List ℕ) → list_any (λ lane. bytes_eq lane.name name && end lane == worker) lanes ≡ true → has_key name_cmp (map (λ lane. lane.name) lanes) name ≡ true
led_by end [] worker name h = cc
led_by end (l ∷ lanes) worker name h = by (bytes_eq l.name name && end l == worker) refl h (led_by end lanes worker name)
  where
    by : (b : Bool) → (bytes_eq l.name name && end l == worker) ≡ b → (b || list_any (λ lane. bytes_eq lane.name name && end lane == worker) lanes) ≡ true → (list_any (λ lane. bytes_eq lane.name name && end lane == worker) lanes ≡ true → has_key name_cmp (map (λ lane. lane.name) lanes) name ≡ true) → (is_at (name_cmp name) l.name || has_key name_cmp (map (λ lane. lane.name) lanes) name) ≡ true
    by true e u more =
        let same : l.name ≡ name = (bytes_eq-Decides l.name name).0 (and_parts (bytes_eq l.name name) (end l == worker) e).0 in
        or_first (is_at (name_cmp name) l.name) (has_key name_cmp (map (λ lane. lane.name) lanes) name) (ap (is_at (name_cmp name)) same ∙ key_itself name_cmp name_cmp_total name)
    by false e u more = or_second (is_at (name_cmp name) l.name) (has_key name_cmp (map (λ lane. lane.name) lanes) name) (more u)

module _ (worker : ℕ) (scenario : ScenarioForm) where
  abbrev rows : RosterRows
  rows = roster_of worker scenario

  abbrev configs : List Placed
  configs = configs_of worker scenario

  covered : (p : Placed) → ((l : LinkSpec) → has_link p.config.links l ≡ true → has_link (all_links configs) l ≡ true) → ((n : List ℕ) → has_key name_cmp (keys_of p.config.apps) n ≡ true → has_key name_cmp (app_names configs) n ≡ true) → All (λ spec. IsArgOf spec.class spec.arg) (values_of p.config.apps) → IsServed scenario.lanes scenario.captures scenario.outputs p → IsCovered rows p.config
  covered p links names args s =
      let app : (n : List ℕ) → has_app p.config n ≡ true → Contains rows.apps n = λ n t. key_there name_cmp name_cmp_total exact_names rows.apps n (all_added name_cmp name_cmp_total exact_names [] (app_names configs) n (names n (sym (is_some-lookup (is_at (name_cmp n)) p.config.apps) ∙ t))) in
      record {
        links = λ l t. key_there link_cmp link_cmp_total exact_links rows.links l (all_added link_cmp link_cmp_total exact_links [] (all_links configs) l (links l t));
        apps = app;
        specs = λ n spec t. record {
          listed = app n (ap is_some t);
          arg = value_at (λ spec. IsArgOf spec.class spec.arg) p.config.apps n spec args t;
          reads = value_at (λ spec. (what : List ℕ) → reads_file spec what ≡ true → Contains scenario.captures what) p.config.apps n spec s.reads t;
          writes = value_at (λ spec. (what : List ℕ) → writes_file spec what ≡ true → Contains scenario.outputs what) p.config.apps n spec s.writes t;
          receives = λ lane u. key_there name_cmp name_cmp_total exact_names rows.lanes lane (led_by (λ l. l.rx) scenario.lanes p.worker lane (value_at (λ spec. (what : List ℕ) → receives_lane spec what ≡ true → leads_to scenario.lanes p.worker what ≡ true) p.config.apps n spec s.receives t lane u));
          transmits = λ lane u. key_there name_cmp name_cmp_total exact_names rows.lanes lane (led_by (λ l. l.tx) scenario.lanes p.worker lane (value_at (λ spec. (what : List ℕ) → transmits_lane spec what ≡ true → leads_from scenario.lanes p.worker what ≡ true) p.config.apps n spec s.transmits t lane u));
        };
      }

  all_covered : (before : ConfigForm) (xs : List Placed) → ((l : LinkSpec) → has_link (all_links xs) l ≡ true → has_link (all_links configs) l ≡ true) → ((n : List ℕ) → has_key name_cmp (app_names xs) n ≡ true → has_key name_cmp (app_names configs) n ≡ true) → AreChanged before xs → AllByRecursion (IsServed scenario.lanes scenario.captures scenario.outputs) xs → AllByRecursion (λ p. IsCovered rows p.config) xs
  all_covered before [] links names h s = tt
  all_covered before (x ∷ xs) links names h s = (
    covered x (λ l t. links l (found_one (is_at (link_cmp l)) links_in x xs t)) (λ n t. names n (found_one (is_at (name_cmp n)) names_in x xs t)) h.0.valid.args s.0,
    all_covered x.config xs (λ l t. links l (found_more (is_at (link_cmp l)) links_in x xs t)) (λ n t. names n (found_more (is_at (name_cmp n)) names_in x xs t)) h.1 s.1,
  )

  kept_served : (p : Placed → Bool) (xs : List Placed) → AllByRecursion (IsServed scenario.lanes scenario.captures scenario.outputs) xs → AllByRecursion (IsServed scenario.lanes scenario.captures scenario.outputs) (filter p xs)
  kept_served p [] h = tt
  kept_served p (x ∷ xs) h = by (p x) (kept_served p xs h.1)
    where
      by : (b : Bool) → AllByRecursion (IsServed scenario.lanes scenario.captures scenario.outputs) (filter p xs) → AllByRecursion (IsServed scenario.lanes scenario.captures scenario.outputs) (cond b (x ∷ filter p xs) (filter p xs))
      by true more = (h.0, more)
      by false more = more

  pub all_listed : AreChanged no_config configs → All (IsServed scenario.lanes scenario.captures scenario.outputs) scenario.placed → All (IsListed rows) (plan_after no_config configs)
  all_listed h s =
      plan_listed rows no_config configs (none_covered rows) h
      (all_covered no_config configs (λ l t. t) (λ n t. t) h (kept_served (of_worker worker) scenario.placed (recursion_from_All (IsServed scenario.lanes scenario.captures scenario.outputs) scenario.placed s)))
