-- The text of a worker's numbered actions.
use Rattle.std.specs.Prelude.{ℕ, ◌+◌, List, [], ◌∷◌, ◌++◌, codes}
use Rattle.std.specs.Fmt.{decimal}
use Rattle.sn_names.specs.Classes.{class_word}
use Rattle.sn_names.specs.LinkText.{canonical_text}
use Rattle.sn_names.specs.declared.arg.Arg.{Arg}
use Rattle.sn_names.specs.declared.arg.Arg.TheVariants.{Nothing, Number, Byte, File, Lane}
use Rattle.sn_config.specs.declared.app_spec.AppSpec.{AppSpec}
use Rattle.sn_actions.specs.declared.action.Action.{Action}
use Rattle.sn_actions.specs.declared.action.Action.TheVariants.{UnlinkOutput, UnlinkInput, FreeLink, StopApp, StartApp}
use Rattle.sn_actions.specs.declared.action.Action.TheVariants.{ReconfigApp, NewLink, LinkOutput, LinkInput, Commit}

-- an argument, behind a space where there is one
abbrev pub arg_text : Arg → List ℕ
arg_text Nothing = []
arg_text (Number n) = 32 ∷ decimal n
arg_text (Byte offset value) = 32 ∷ (decimal offset ++ 61 ∷ decimal value)
arg_text (File name) = 32 ∷ name
arg_text (Lane name) = 32 ∷ name

-- an app's name, its class and its argument
abbrev pub app_text : List ℕ → AppSpec → List ℕ
app_text name spec = name ++ (32 ∷ (class_word spec.class ++ arg_text spec.arg))

-- an action's kind and what it names
abbrev pub action_text : Action → List ℕ
action_text (UnlinkOutput link) = codes "unlink_output " ++ canonical_text link
action_text (UnlinkInput link) = codes "unlink_input " ++ canonical_text link
action_text (FreeLink link) = codes "free_link " ++ canonical_text link
action_text (StopApp name) = codes "stop_app " ++ name
action_text (StartApp name spec) = codes "start_app " ++ app_text name spec
action_text (ReconfigApp name spec) = codes "reconfig_app " ++ app_text name spec
action_text (NewLink link) = codes "new_link " ++ canonical_text link
action_text (LinkOutput link) = codes "link_output " ++ canonical_text link
action_text (LinkInput link) = codes "link_input " ++ canonical_text link
action_text Commit = codes "commit"

-- a line for each action, with its number, counted on from this one
abbrev pub actions_text : ℕ → List Action → List ℕ
actions_text number [] = []
actions_text number (action ∷ actions) = decimal number ++ (32 ∷ (action_text action ++ 10 ∷ actions_text (number + 1) actions))
