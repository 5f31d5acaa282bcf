-- The apps of a network in memory, each with its name and its ports.
use Rattle.std.specs.Prelude.{ℕ, List, [], ◌∷◌, Option, Some, None, bytes_eq, if◌then◌else◌, sum_by}
use Rattle.sn_app.specs.Desk.{Tray}
use Rattle.sn_app.specs.World.{Used}
use Rattle.sn_kind.specs.declared.kind.AppKind.{AppKind}
use Rattle.sn_kind.specs.Kinds.{kind_class, kind_places, kind_state}
use Rattle.sn_names.specs.declared.class.Class.{Class}
use Rattle.sn_actions.specs.PlainForms.{PlainForm}
use Rattle.sn_network.specs.Nets.{Net, States}
use Rattle.sn_network.specs.declared.place.Place.{Place}

-- what is read off the app of a name, if there is one
unfoldable pub found : {A : Type 0} → (Place → A) → List Place → List ℕ → Option A
found f [] name = None
found f (place ∷ places) name = if bytes_eq name place.name then Some (f place) else found f places name

-- the states of the apps, by their names
abbrev pub states_in : List Place → Used → Tray → States
states_in places used t name = found (λ place. kind_state place.kind used t) places name

-- the class of the app of a name
abbrev pub class_in : List Place → List ℕ → Option Class
class_in places name = found (λ place. kind_class place.kind) places name

-- a network in memory, over a context
abbrev pub net_of : PlainForm → List Place → Used → Tray → Net
net_of plain places used t = record { plain = plain; states = states_in places used t }

-- how often a place of the hold is among those that the apps keep
unfoldable pub kept_in : List Place → ℕ → ℕ
kept_in places place = sum_by (λ app. kind_places app.kind place) places

-- how many apps have a name
unfoldable pub is_named : List ℕ → Place → ℕ
is_named name place = if bytes_eq name place.name then 1 else 0

unfoldable pub named_in : List ℕ → List Place → ℕ
named_in name places = sum_by (is_named name) places

-- an app without its ports
abbrev pub bare : Place → List ℕ × AppKind
bare place = (place.name, place.kind)
