-- The scenarios that run so far.
use Rattle.std.specs.Prelude.{◌==◌, Bool, length}
use Rattle.sn_scenario.specs.Scenarios.{ScenarioForm}

-- those that stop no worker
abbrev pub runs_now : ScenarioForm → Bool
runs_now form = length form.stops == 0
