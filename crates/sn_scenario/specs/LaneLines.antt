-- The lines of interlinks.
use Rattle.std.specs.Prelude.{Bool, List, Ok, Result, [], length, nat_le, ℕ, ◌++◌, ◌==◌, ◌∷◌}
use Rattle.std.specs.List.{list_any}
use Rattle.std.specs.Str.{bytes_eq}
use Rattle.sn_scenario.specs.Leaves.{named, worker_in}
use Rattle.sn_scenario.specs.Results.{fault_if, three_tokens, ◌>>=◌}
use Rattle.sn_scenario.specs.declared.lane.Lane.{Lane}
use Rattle.sn_scenario.specs.declared.why.Why.{Why}
use Rattle.sn_scenario.specs.declared.why.Why.TheVariants as fault

-- an interlink of this name is there
abbrev pub has_lane : List ℕ → List Lane → Bool
has_lane name lanes = list_any (λ lane. bytes_eq lane.name name) lanes

-- Shape; Name; Worker: TX, then RX, and they differ; Twice; TooMany
unfoldable pub lane_line : ℕ → List Lane → List (List ℕ) → Result (List Lane) Why
lane_line workers lanes tokens = do
  token ← three_tokens tokens
  name ← named token.0
  tx ← worker_in workers token.1
  rx ← worker_in workers token.2
  fault_if (tx == rx) fault.Worker
      (fault_if (has_lane name lanes) fault.Twice
      (fault_if (nat_le 16 (length lanes)) fault.TooMany
      (Ok (lanes ++ record { name = name; tx = tx; rx = rx } ∷ []))))
