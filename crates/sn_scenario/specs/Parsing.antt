-- What the reader of a scenario answers.
use Rattle.std.specs.Prelude.{Err, Ok, Result, ℕ, ◌≡◌}
use Rattle.sn_scenario.specs.ScenarioText.{Reading, at_line, finish}
use Rattle.sn_scenario.specs.Scenarios.{ScenarioForm}
use Rattle.sn_scenario.specs.declared.fault.LineFault.{LineFault}
use Rattle.sn_scenario.specs.declared.fault.LineFault.TheVariants as lines
use Rattle.sn_scenario.specs.declared.fault.ParseFault.{ParseFault}
use Rattle.sn_scenario.specs.declared.fault.ParseFault.TheVariants.{Bad, OutOfMemory}
use Rattle.sn_scenario.specs.declared.fault.ScenarioFault.{ScenarioFault}

-- a line's fault, with its number
abbrev pub fault_at : ℕ → LineFault → ParseFault
fault_at number lines.OutOfMemory = OutOfMemory
fault_at number (lines.Bad why) = Bad (record { line = number; why = why })

-- want of memory, or the fault that the text has
abbrev pub Refuses : ParseFault → Result ScenarioForm ScenarioFault → Type 0
Refuses OutOfMemory read = Unit {0}
Refuses (Bad fault) read = read ≡ Err fault

-- the scenario or the fault that the text has, unless memory ran out
abbrev pub Parses : Result ScenarioForm ParseFault → Result ScenarioForm ScenarioFault → Type 0
Parses (Ok scenario) read = read ≡ Ok scenario
Parses (Err fault) read = Refuses fault read

-- all lines were read, up to one with this number, or the text has this fault
abbrev pub ReadsAll : Reading → Result ℕ ParseFault → Result ScenarioForm ScenarioFault → Type 0
ReadsAll r (Ok number) read = read ≡ at_line number (finish r)
ReadsAll r (Err fault) read = Refuses fault read
