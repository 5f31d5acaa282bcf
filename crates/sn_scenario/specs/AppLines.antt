-- The lines of apps.
use Rattle.std.specs.Prelude.{List, Ok, Option, Result, length, nat_le, ℕ}
use Rattle.sn_config.specs.Configs.{ConfigForm, has_app, with_app}
use Rattle.sn_names.specs.declared.arg.Arg.{Arg}
use Rattle.sn_names.specs.declared.class.Class.{Class}
use Rattle.sn_scenario.specs.FileUses.{FilesForm, file_fault, files_full, with_file}
use Rattle.sn_scenario.specs.LaneEnds.{end_fault}
use Rattle.sn_scenario.specs.Leaves.{arg_of, class_of, named}
use Rattle.sn_scenario.specs.Results.{app_tokens, fault_if, needed, ◌>>=◌}
use Rattle.sn_scenario.specs.declared.lane.Lane.{Lane}
use Rattle.sn_scenario.specs.declared.placed.Placed.{Placed}
use Rattle.sn_scenario.specs.declared.why.Why.{Why}
use Rattle.sn_scenario.specs.declared.why.Why.TheVariants as fault

-- End; FileUse; TooMany: a 17th capture or output
unfoldable pub end_and_file : Option (List ℕ) → List Lane → FilesForm → Placed → Class → Arg → Result Unit Why
end_and_file journal lanes files placed class arg =
    fault_if (end_fault lanes placed.worker placed.config.apps class arg) fault.End
    (fault_if (file_fault journal placed.worker placed.config.apps files class arg) fault.FileUse
    (fault_if (files_full files class arg) fault.TooMany
    (Ok tt)))

-- TooMany: over 256 apps
unfoldable pub app_added : ConfigForm → List ℕ → Class → Arg → Result ConfigForm Why
app_added config name class arg =
    fault_if (nat_le 256 (length config.apps)) fault.TooMany
    (Ok (with_app config name (record { class = class; arg = arg })))

-- End; FileUse; TooMany. What is left is the configuration with the app, and the files with the app's
unfoldable pub app_taken : Option (List ℕ) → List Lane → FilesForm → Placed → List ℕ → Class → Arg → Result (Placed × FilesForm) Why
app_taken journal lanes files placed name class arg = do
  done ← end_and_file journal lanes files placed class arg
  config ← app_added placed.config name class arg
  Ok (record placed { config = config }, with_file files placed.worker class arg)

-- Shape; Name; Twice; Class; Arg; then these
unfoldable pub app_line : Option (List ℕ) → List Lane → FilesForm → Placed → List (List ℕ) → Result (Placed × FilesForm) Why
app_line journal lanes files placed tokens = do
  token ← app_tokens tokens
  name ← named token.name
  class ← fault_if (has_app placed.config name) fault.Twice (needed fault.Class (class_of token.class))
  arg ← needed fault.Arg (arg_of class token.arg)
  app_taken journal lanes files placed name class arg
