-- The lines that begin configurations.
use Rattle.std.specs.Prelude.{Bool, List, Ok, Result, [], count_by, nat_le, ℕ, ◌&&◌, ◌==◌}
use Rattle.std.specs.List.{list_any}
use Rattle.sn_config.specs.Configs.{ConfigForm}
use Rattle.sn_scenario.specs.Leaves.{numbered, worker_in}
use Rattle.sn_scenario.specs.Results.{fault_if, two_tokens, ◌>>=◌}
use Rattle.sn_scenario.specs.declared.placed.Placed.{Placed}
use Rattle.sn_scenario.specs.declared.why.Why.{Why}
use Rattle.sn_scenario.specs.declared.why.Why.TheVariants as fault

abbrev pub of_worker : ℕ → Placed → Bool
of_worker worker placed = placed.worker == worker

-- a configuration of the worker has this round or a later one
abbrev pub has_later : ℕ → ℕ → List Placed → Bool
has_later worker round placed = list_any (λ other. other.worker == worker && nat_le round other.round) placed

abbrev pub no_config : ConfigForm
no_config = record { apps = []; links = [] }

-- Shape; Worker; Number; Order: each round of the worker is less than ROUND; TooMany: over 64 of the worker
unfoldable pub config_line : ℕ → List Placed → List (List ℕ) → Result Placed Why
config_line workers placed tokens = do
  token ← two_tokens tokens
  worker ← worker_in workers token.0
  round ← numbered 0 100000 token.1
  fault_if (has_later worker round placed) fault.Order
      (fault_if (nat_le 64 (count_by (of_worker worker) placed)) fault.TooMany
      (Ok (record { worker = worker; round = round; config = no_config })))
