-- What a command does with files, as a script: which file it reads first, and what it does next by the bytes that it gets.
use Rattle.std.specs.Prelude.{ℕ, ◌-◌, List, [], ◌∷◌, ◌++◌, Result, Ok, Err, cond, length, min, nat_lt}
use Rattle.sn_scenario.specs.Plans.{plan_of}
use Rattle.sn_scenario.specs.ScenarioText.{scenario_of}
use Rattle.sn_scenario.specs.Scenarios.{ScenarioForm}
use Rattle.sn_scenario.specs.declared.fault.ScenarioFault.{ScenarioFault}
use Rattle.sn_run.specs.ActionTexts.{actions_text}
use Rattle.sn_run.specs.Now.{runs_now}
use Rattle.sn_run.specs.Texts.{way_text}
use Rattle.sn_run.specs.Ways.{Why, done, no_scenario, no_worker, not_yet}
use Rattle.sn_run.specs.declared.command.Command.{Command}
use Rattle.sn_run.specs.declared.command.Command.TheVariants.{Run, Check, Actions}

-- It ends with this text, or with this refusal; or a file is read, at most so many bytes of it, and they decide how it goes on;
-- or the bytes of a file are opened as a capture, and then it goes on; or a scenario is run over captures of these bytes, its
-- files are written in their order, and it ends with the outcome.
pub data Script : Type 0 where
  prints : List ℕ → Script
  refuses : Why → Script
  reads : List ℕ → ℕ → (List ℕ → Script) → Script
  opens : List ℕ → List ℕ → Script → Script
  runs : ScenarioForm → List (List ℕ) → Script

-- the most bytes of a scenario, of a capture, and of all captures of a run
abbrev pub most_scenario : ℕ
most_scenario = 1048576

abbrev pub most_capture : ℕ
most_capture = 16777216

abbrev pub most_captures : ℕ
most_captures = 67108864

-- The captures of these names are read and opened, one after another, with so much room for their bytes, and then the scenario is
-- run over these before and them.
abbrev pub captures_script : ScenarioForm → List (List ℕ) → ℕ → List (List ℕ) → Script
captures_script form [] room before = runs form before
captures_script form (name ∷ names) room before =
    reads name (min room most_capture)
    (λ bytes. opens name bytes (captures_script form names (room - length bytes) (before ++ bytes ∷ [])))

-- a scenario that doesn't run yet is refused
abbrev pub run_script : List ℕ → ScenarioForm → Script
run_script file form = cond (runs_now form) (captures_script form form.captures most_captures []) (refuses (not_yet file))

-- and so is a worker that the scenario doesn't have
abbrev pub actions_script : ℕ → ScenarioForm → Script
actions_script worker form =
    cond (nat_lt worker form.settings.workers) (prints (actions_text 1 (plan_of worker form))) (refuses (no_worker worker))

abbrev pub form_script : List ℕ → ScenarioForm → Command → Script
form_script file form Run = run_script file form
form_script file form Check = prints (way_text done)
form_script file form (Actions worker) = actions_script worker form

-- a text is taken as a scenario
abbrev pub text_script : List ℕ → Command → Result ScenarioForm ScenarioFault → Script
text_script file command (Ok form) = form_script file form command
text_script file command (Err fault) = refuses (no_scenario fault)

-- a command over a file
abbrev pub command_script : List ℕ → Command → Script
command_script file command = reads file most_scenario (λ text. text_script file command (scenario_of text))
