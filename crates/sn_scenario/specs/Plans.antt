-- What a scenario has each worker do, and when it is due.
use Rattle.std.specs.Prelude.{List, [], cond, filter, flat_map, fold, length, map, nat_le, ℕ, ◌+◌, ◌++◌, ◌∷◌}
use Rattle.std.specs.BTreeSet.{insert_key}
use Rattle.std.specs.Map.{keys_of}
use Rattle.std.specs.declared.cmp.Ordering.{Ordering}
use Rattle.sn_actions.specs.Diffs.{diff_of}
use Rattle.sn_actions.specs.declared.action.Action.{Action}
use Rattle.sn_actions.specs.declared.action.Action.TheVariants.{Commit}
use Rattle.sn_config.specs.Configs.{ConfigForm}
use Rattle.sn_names.specs.LinkOrder.{link_cmp, name_cmp}
use Rattle.sn_names.specs.Rosters.{RosterRows}
use Rattle.sn_names.specs.declared.link.LinkSpec.{LinkSpec}
use Rattle.sn_scenario.specs.ConfigLines.{no_config, of_worker}
use Rattle.sn_scenario.specs.Scenarios.{ScenarioForm}
use Rattle.sn_scenario.specs.declared.placed.Placed.{Placed}

-- a worker's configurations, in their order
abbrev pub configs_of : ℕ → ScenarioForm → List Placed
configs_of worker scenario = filter (of_worker worker) scenario.placed

-- the actions of one configuration after another: the differences, and a commit
abbrev pub change_of : ConfigForm → ConfigForm → List Action
change_of before after = diff_of before after ++ Commit ∷ []

-- the actions of configurations, each after the one before
unfoldable pub plan_after : ConfigForm → List Placed → List Action
plan_after before [] = []
plan_after before (placed ∷ more) = change_of before placed.config ++ plan_after placed.config more

-- how many of them belong to configurations of this round or an earlier one
unfoldable pub due_after : ℕ → ConfigForm → List Placed → ℕ
due_after round before [] = 0
due_after round before (placed ∷ more) = cond (nat_le placed.round round) (length (change_of before placed.config)) 0 + due_after round placed.config more

abbrev pub plan_of : ℕ → ScenarioForm → List Action
plan_of worker scenario = plan_after no_config (configs_of worker scenario)

abbrev pub due_of : ℕ → ℕ → ScenarioForm → ℕ
due_of worker round scenario = due_after round no_config (configs_of worker scenario)

-- keys, each once, in order
abbrev pub ordered : {K : Type 0} → (K → K → Ordering) → List K → List K
ordered cmp keys = fold (insert_key cmp) [] keys

-- the names of a worker's rows
abbrev pub app_names : List Placed → List (List ℕ)
app_names configs = flat_map (λ placed. keys_of placed.config.apps) configs

abbrev pub all_links : List Placed → List LinkSpec
all_links configs = flat_map (λ placed. placed.config.links) configs

abbrev pub roster_of : ℕ → ScenarioForm → RosterRows
roster_of worker scenario =
    let configs = configs_of worker scenario in
    record {
      apps = ordered name_cmp (app_names configs);
      links = ordered link_cmp (all_links configs);
      captures = scenario.captures;
      files = scenario.outputs;
      lanes = map (λ lane. lane.name) scenario.lanes;
    }
