-- The ends of interlinks that apps take.
use Rattle.std.specs.Prelude.{Bool, List, None, Option, Some, false, not, true, ℕ, ◌&&◌, ◌==◌, ◌||◌}
use Rattle.std.specs.List.{list_any}
use Rattle.std.specs.Str.{bytes_eq}
use Rattle.sn_config.specs.declared.app_spec.AppSpec.{AppSpec}
use Rattle.sn_names.specs.declared.arg.Arg.{Arg}
use Rattle.sn_names.specs.declared.arg.Arg.TheVariants as args
use Rattle.sn_names.specs.declared.class.Class.{Class}
use Rattle.sn_names.specs.declared.class.Class.TheVariants as class
use Rattle.sn_scenario.specs.FileUses.{is_named}
use Rattle.sn_scenario.specs.declared.lane.Lane.{Lane}

-- the interlink that an argument names
abbrev pub lane_named : Arg → Option (List ℕ)
lane_named (args.Lane name) = Some name
lane_named _ = None

abbrev pub is_receiver : Class → Bool
is_receiver class.Receiver = true
is_receiver _ = false

abbrev pub is_transmitter : Class → Bool
is_transmitter class.Transmitter = true
is_transmitter _ = false

-- an interlink of this name has the worker as RX, as TX
abbrev pub leads_to : List Lane → ℕ → List ℕ → Bool
leads_to lanes worker name = list_any (λ lane. bytes_eq lane.name name && lane.rx == worker) lanes

abbrev pub leads_from : List Lane → ℕ → List ℕ → Bool
leads_from lanes worker name = list_any (λ lane. bytes_eq lane.name name && lane.tx == worker) lanes

-- an app of the configuration has this end
abbrev pub has_receiver : List (List ℕ × AppSpec) → List ℕ → Bool
has_receiver apps name = list_any (λ app. is_receiver app.1.class && is_named (lane_named app.1.arg) name) apps

abbrev pub has_transmitter : List (List ℕ × AppSpec) → List ℕ → Bool
has_transmitter apps name = list_any (λ app. is_transmitter app.1.class && is_named (lane_named app.1.arg) name) apps

-- End: no such interlink was declared before, or a second app of the configuration is on the same end
abbrev pub receiver_fault : List Lane → ℕ → List (List ℕ × AppSpec) → Option (List ℕ) → Bool
receiver_fault lanes worker apps None = false
receiver_fault lanes worker apps (Some name) = not (leads_to lanes worker name) || has_receiver apps name

abbrev pub transmitter_fault : List Lane → ℕ → List (List ℕ × AppSpec) → Option (List ℕ) → Bool
transmitter_fault lanes worker apps None = false
transmitter_fault lanes worker apps (Some name) = not (leads_from lanes worker name) || has_transmitter apps name

abbrev pub end_fault : List Lane → ℕ → List (List ℕ × AppSpec) → Class → Arg → Bool
end_fault lanes worker apps class.Receiver arg = receiver_fault lanes worker apps (lane_named arg)
end_fault lanes worker apps class.Transmitter arg = transmitter_fault lanes worker apps (lane_named arg)
end_fault lanes worker apps _ arg = false
