-- What holds of a worker's plan, and its plain form after a number of its actions.
use Rattle.std.specs.Prelude.{All, Bool, Contains, List, Ok, Result, [], cond, count_by, false, fold, get_or, length, suc, take, true, zero, ℕ, ◌<◌, ◌∷◌, ◌≡◌, ◌||◌}
use Rattle.std.specs.List.{list_any}
use Rattle.sn_actions.specs.Diffs.{IsChange, diff_of}
use Rattle.sn_actions.specs.PlainForms.{PlainForm, empty_form}
use Rattle.sn_actions.specs.Plains.{apply_all, full}
use Rattle.sn_actions.specs.declared.action.Action.{Action}
use Rattle.sn_actions.specs.declared.action.Action.TheVariants.{Commit, FreeLink, LinkInput, LinkOutput, NewLink, ReconfigApp, StartApp, StopApp, UnlinkInput, UnlinkOutput}
use Rattle.sn_actions.specs.declared.fault.ActionFault.{ActionFault}
use Rattle.sn_config.specs.ArgText.{IsArgOf}
use Rattle.sn_config.specs.Configs.{ConfigForm, IsConfig}
use Rattle.sn_config.specs.declared.app_spec.AppSpec.{AppSpec}
use Rattle.sn_names.specs.Rosters.{RosterRows}
use Rattle.sn_scenario.specs.AppUses.{reads_file, receives_lane, transmits_lane, writes_file}
use Rattle.sn_scenario.specs.ConfigLines.{no_config, of_worker}
use Rattle.sn_scenario.specs.LaneEnds.{leads_from, leads_to}
use Rattle.sn_scenario.specs.Plans.{change_of, configs_of, plan_of}
use Rattle.sn_scenario.specs.Scenarios.{ScenarioForm}
use Rattle.sn_scenario.specs.declared.lane.Lane.{Lane}
use Rattle.sn_scenario.specs.declared.placed.Placed.{Placed}

abbrev pub is_commit : Action → Bool
is_commit Commit = true
is_commit _ = false

-- the actions up to the last commit
abbrev pub committed : List Action → List Action
committed [] = []
committed (action ∷ actions) = cond (is_commit action || list_any is_commit actions) (action ∷ committed actions) []

-- the plain form of a worker after the actions up to the last commit among the first n of its plan
abbrev pub prefix_of : ℕ → ℕ → ScenarioForm → Result PlainForm ActionFault
prefix_of worker n scenario = apply_all (committed (take n (plan_of worker scenario))) empty_form

-- the configuration after so many others, where this one is before them
abbrev pub config_after : ℕ → ConfigForm → List Placed → ConfigForm
config_after zero before configs = before
config_after (suc n) before [] = before
config_after (suc n) before (placed ∷ more) = config_after n placed.config more

-- the configuration that the last commit among the first n actions ends: the empty one where there is none
abbrev pub committed_config : ℕ → ℕ → ScenarioForm → ConfigForm
committed_config worker n scenario = config_after (count_by is_commit (take n (plan_of worker scenario))) no_config (configs_of worker scenario)

-- an app that is named stands in the roster, with what it uses, and has an argument of its class
pub record IsListedApp (rows : RosterRows) (name : List ℕ) (spec : AppSpec) : Type 0 where
  pub listed : Contains rows.apps name
  pub arg : IsArgOf spec.class spec.arg
  pub reads : (file : List ℕ) → reads_file spec file ≡ true → Contains rows.captures file
  pub writes : (file : List ℕ) → writes_file spec file ≡ true → Contains rows.files file
  pub receives : (lane : List ℕ) → receives_lane spec lane ≡ true → Contains rows.lanes lane
  pub transmits : (lane : List ℕ) → transmits_lane spec lane ≡ true → Contains rows.lanes lane

-- what an action names stands in the roster
abbrev pub IsListed : RosterRows → Action → Type 0
IsListed rows (UnlinkOutput link) = Contains rows.links link
IsListed rows (UnlinkInput link) = Contains rows.links link
IsListed rows (FreeLink link) = Contains rows.links link
IsListed rows (StopApp name) = Contains rows.apps name
IsListed rows (StartApp name spec) = IsListedApp rows name spec
IsListed rows (ReconfigApp name spec) = IsListedApp rows name spec
IsListed rows (NewLink link) = Contains rows.links link
IsListed rows (LinkOutput link) = Contains rows.links link
IsListed rows (LinkInput link) = Contains rows.links link
IsListed rows Commit = Unit {0}

-- an app receives from interlinks that lead to the worker, and transmits into those that lead from it
pub record TakesOwnEnds (lanes : List Lane) (worker : ℕ) (spec : AppSpec) : Type 0 where
  pub receives : (lane : List ℕ) → receives_lane spec lane ≡ true → leads_to lanes worker lane ≡ true
  pub transmits : (lane : List ℕ) → transmits_lane spec lane ≡ true → leads_from lanes worker lane ≡ true

-- an app that an action starts or gives a new argument takes ends of interlinks that are the worker's own
abbrev pub UsesOwnEnds : List Lane → ℕ → Action → Type 0
UsesOwnEnds lanes worker (StartApp name spec) = TakesOwnEnds lanes worker spec
UsesOwnEnds lanes worker (ReconfigApp name spec) = TakesOwnEnds lanes worker spec
UsesOwnEnds lanes worker _ = Unit {0}

-- the law of the actions between two configurations, and what they name
pub record IsChanged (before after : ConfigForm) : Type 0 where
  pub law : apply_all (diff_of before after) (full before) ≡ Ok (full after)
  pub changes : All (IsChange before after) (diff_of before after)
  pub valid : IsConfig after

-- the same of configurations, each after the one before
abbrev pub AreChanged : ConfigForm → List Placed → Type 0
AreChanged before [] = Unit {0}
AreChanged before (placed ∷ more) = IsChanged before placed.config × AreChanged placed.config more

-- the last configuration of a worker among these, or the empty one
abbrev pub last_config : ℕ → List Placed → ConfigForm
last_config worker placed = fold (λ before next. cond (of_worker worker next) next.config before) no_config placed

-- how many actions the configuration at a place has
abbrev pub count_at : List Placed → ℕ → Placed → ℕ
count_at placed i next = length (change_of (last_config next.worker (take i placed)) next.config)

-- a number for each configuration: how many actions it has
pub record HasCounts (placed : List Placed) (counts : List ℕ) : Type 0 where
  pub same : length counts ≡ length placed
  pub each : (i : ℕ) (next : Placed) → i < length placed → next ≡ get_or placed i next → get_or counts i 0 ≡ count_at placed i next

-- what is kept beside a scenario; a proof that needs it unfolds the word
unfoldable pub AreCounts : List Placed → List ℕ → Type 0
AreCounts placed counts = HasCounts placed counts
