-- The lines of stops.
use Rattle.std.specs.Prelude.{Bool, List, Ok, Result, [], length, nat_le, ℕ, ◌&&◌, ◌++◌, ◌==◌, ◌∷◌}
use Rattle.std.specs.List.{list_any}
use Rattle.sn_scenario.specs.Leaves.{numbered, worker_in}
use Rattle.sn_scenario.specs.Results.{fault_if, three_tokens, ◌>>=◌}
use Rattle.sn_scenario.specs.declared.stop.StopLine.{StopLine}
use Rattle.sn_scenario.specs.declared.why.Why.{Why}
use Rattle.sn_scenario.specs.declared.why.Why.TheVariants as fault

abbrev pub same_stop : StopLine → StopLine → Bool
same_stop a b = a.worker == b.worker && a.entries == b.entries && a.gates == b.gates

abbrev pub has_stop : StopLine → List StopLine → Bool
has_stop stop stops = list_any (λ other. same_stop other stop) stops

-- the stop is none before, and there is room
abbrev pub with_stop : List StopLine → StopLine → Result (List StopLine) Why
with_stop stops stop =
    fault_if (has_stop stop stops) fault.Twice
    (fault_if (nat_le 1000 (length stops)) fault.TooMany
    (Ok (stops ++ stop ∷ [])))

-- Shape; Worker; Number: ENTRIES, then GATES; Twice; TooMany
unfoldable pub stop_line : ℕ → List StopLine → List (List ℕ) → Result (List StopLine) Why
stop_line workers stops tokens = do
  token ← three_tokens tokens
  worker ← worker_in workers token.0
  entries ← numbered 0 1000000000 token.1
  gates ← numbered 0 1000000 token.2
  with_stop stops (record { worker = worker; entries = entries; gates = gates })
