-- The lines of settings.
use Rattle.std.specs.Prelude.{Bool, List, Ok, Option, Result, Some, is_some, nat_lt, unwrap_or, ℕ, ◌*◌}
use Rattle.sn_scenario.specs.Leaves.{filed, numbered}
use Rattle.sn_scenario.specs.Results.{fault_if, one_token, ◌>>=◌}
use Rattle.sn_scenario.specs.declared.kind.Setting.{Setting}
use Rattle.sn_scenario.specs.declared.kind.Setting.TheVariants as setting
use Rattle.sn_scenario.specs.declared.settings.Given.{Given}
use Rattle.sn_scenario.specs.declared.settings.Settings.{Settings}
use Rattle.sn_scenario.specs.declared.why.Why.{Why}
use Rattle.sn_scenario.specs.declared.why.Why.TheVariants as fault

-- Shape; Number; Twice
unfoldable pub number_line : ℕ → ℕ → Option ℕ → List (List ℕ) → Result ℕ Why
number_line low high before tokens = do
  token ← one_token tokens
  number ← numbered low high token
  fault_if (is_some before) fault.Twice (Ok number)

-- Shape; FileBad; Twice
unfoldable pub journal_line : Option (List ℕ) → List (List ℕ) → Result (List ℕ) Why
journal_line before tokens = do
  token ← one_token tokens
  file ← filed token
  fault_if (is_some before) fault.Twice (Ok file)

-- the settings after a line of one, from those before it and the tokens after the first
unfoldable pub setting_line : Setting → Given → List (List ℕ) → Result Given Why
setting_line setting.Pool given tokens = do
  number ← number_line 1 16384 given.pool tokens
  Ok (record given { pool = Some number })
setting_line setting.Workers given tokens = do
  number ← number_line 1 16 given.workers tokens
  Ok (record given { workers = Some number })
setting_line setting.Breaths given tokens = do
  number ← number_line 1 1000 given.breaths tokens
  Ok (record given { breaths = Some number })
setting_line setting.Rounds given tokens = do
  number ← number_line 1 100000 given.rounds tokens
  Ok (record given { rounds = Some number })
setting_line setting.Restarts given tokens = do
  number ← number_line 0 1000 given.restarts tokens
  Ok (record given { restarts = Some number })
setting_line setting.Journal given tokens = do
  file ← journal_line given.journal tokens
  Ok (record given { journal = Some file })

-- with the defaults
abbrev pub settings_of : Given → Settings
settings_of given =
    record {
      pool = unwrap_or given.pool 4096;
      workers = unwrap_or given.workers 1;
      breaths = unwrap_or given.breaths 100;
      rounds = unwrap_or given.rounds 10;
      restarts = unwrap_or given.restarts 0;
    }

-- rounds times breaths is over 100,000
abbrev pub is_over : Settings → Bool
is_over settings = nat_lt 100000 (settings.rounds * settings.breaths)
