-- Configurations.
use Rattle.std.specs.Prelude.{All, Bool, List, None, Option, Some, cond, length, ℕ, ◌&&◌, ◌<◌, ◌||◌, ◌≡◌, ◌≤◌, nat_eq, nat_le, is_some, true, false}
use Rattle.std.specs.BTreeMap.{insert_entry, is_at}
use Rattle.std.specs.BTreeSet.{insert_key}
use Rattle.std.specs.Cmp.Lexicographic.{pointwise}
use Rattle.std.specs.List.{list_any}
use Rattle.std.specs.Map.{lookup, values_of}
use Rattle.sn_config.specs.ArgText.{IsArgOf, TakesArg}
use Rattle.sn_config.specs.declared.app_spec.AppSpec.{AppSpec}
use Rattle.sn_config.specs.declared.fault.ConfigFault.{ConfigFault}
use Rattle.sn_config.specs.declared.fault.ConfigFault.TheVariants.{BadArg, NoSuchApp, OutOfMemory, PortTaken, TooMany, Twice}
use Rattle.sn_names.specs.LinkOrder.{link_cmp, name_cmp}
use Rattle.sn_names.specs.declared.arg.Arg.{Arg}
use Rattle.sn_names.specs.declared.class.Class.{Class}
use Rattle.sn_names.specs.declared.link.LinkSpec.{LinkSpec}

-- apps by name, in the bytewise order of names, and links, in their order
pub record ConfigForm : Type 0 where
  pub apps : List (List ℕ × AppSpec)
  pub links : List LinkSpec

-- what the app of this name is
abbrev pub app_at : List (List ℕ × AppSpec) → List ℕ → Option AppSpec
app_at apps name = lookup (is_at (name_cmp name)) apps

abbrev pub has_app : ConfigForm → List ℕ → Bool
has_app config name = is_some (app_at config.apps name)

abbrev pub has_link : List LinkSpec → LinkSpec → Bool
has_link links link = list_any (is_at (link_cmp link)) links

abbrev pub same_name : List ℕ → List ℕ → Bool
same_name a b = pointwise nat_eq a b

-- both links have the same output port, or the same input port
abbrev pub shares_port : LinkSpec → LinkSpec → Bool
shares_port link other = (same_name other.from link.from && same_name other.out link.out) || (same_name other.to link.to && same_name other.input link.input)

-- a configuration with one app or one link more
abbrev pub with_app : ConfigForm → List ℕ → AppSpec → ConfigForm
with_app config name spec = record config { apps = insert_entry name_cmp config.apps name spec }

abbrev pub with_link : ConfigForm → LinkSpec → ConfigForm
with_link config link = record config { links = insert_key link_cmp config.links link }

-- an app of this name was added, with the argument that its class takes
pub record AddsApp (old new : ConfigForm) (name : List ℕ) (class : Class) (text : Option (List ℕ)) : Type 0 where
  pub spec : AppSpec
  pub absent : has_app old name ≡ false
  pub class_is : spec.class ≡ class
  pub taken : TakesArg class text spec.arg
  pub room : length old.apps < 256
  pub added : new ≡ with_app old name spec

-- the first failing check of an app, or want of memory where none fails
abbrev pub IsAppFault : ConfigForm → List ℕ → Class → Option (List ℕ) → ConfigFault → Type 0
IsAppFault config name class text Twice = has_app config name ≡ true
IsAppFault config name class text NoSuchApp = ⊥
IsAppFault config name class text BadArg = (has_app config name ≡ false) × ((arg : Arg) → TakesArg class text arg → ⊥)
IsAppFault config name class text PortTaken = ⊥
IsAppFault config name class text TooMany = (has_app config name ≡ false) × ((arg : Arg) × TakesArg class text arg) × (256 ≤ length config.apps)
IsAppFault config name class text OutOfMemory = (has_app config name ≡ false) × ((arg : Arg) × TakesArg class text arg) × (length config.apps < 256)

-- the first failing check: the link is there, an app isn't, a port is taken, there are too many
abbrev pub first_fault : Bool → Bool → Bool → Bool → Option ConfigFault
first_fault there apps taken full = cond there (Some Twice) (cond apps (cond taken (Some PortTaken) (cond full (Some TooMany) None)) (Some NoSuchApp))

-- the first failing check of a link, if one fails
abbrev pub link_fault : ConfigForm → LinkSpec → Option ConfigFault
link_fault config link =
    first_fault
    (has_link config.links link)
    (has_app config link.from && has_app config link.to)
    (list_any (shares_port link) config.links)
    (nat_le 512 (length config.links))

-- what holds of every configuration: each app has an argument of its class, apps of links are there,
-- and no two links have a port in common
pub record IsConfig (config : ConfigForm) : Type 0 where
  pub args : All (λ spec. IsArgOf spec.class spec.arg) (values_of config.apps)
  pub few_apps : length config.apps ≤ 256
  pub few_links : length config.links ≤ 512
  pub from : (link : LinkSpec) → has_link config.links link ≡ true → has_app config link.from ≡ true
  pub to : (link : LinkSpec) → has_link config.links link ≡ true → has_app config link.to ≡ true
  pub ports : (link other : LinkSpec) → has_link config.links link ≡ true → has_link config.links other ≡ true → shares_port link other ≡ true → link ≡ other
