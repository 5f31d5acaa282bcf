-- What holds of a network and the context that it runs over.
use Rattle.std.specs.FinMap as finmap
use Rattle.std.specs.FinSet as finset
use Rattle.std.specs.Prelude.{ℕ, ◌≤◌, ◌≡◌, true, List, OnOk, Option, Ok, Result, Some, map, slice_get}
use Rattle.std.specs.Option.{option_map}
use Rattle.sn_actions.specs.Consistency.{IsConsistent}
use Rattle.sn_actions.specs.PlainForms.{PlainForm}
use Rattle.sn_actions.specs.declared.action.Action.{Action}
use Rattle.sn_actions.specs.declared.action.Action.TheVariants.{LinkInput, LinkOutput, NewLink, ReconfigApp, StartApp}
use Rattle.sn_actions.specs.declared.action.Action.TheVariants.{UnlinkInput, UnlinkOutput}
use Rattle.sn_app.specs.Calls.{HasLink, HasName}
use Rattle.sn_app.specs.Starts.{ArgIsThere}
use Rattle.sn_config.specs.ArgText.{IsArgOf}
use Rattle.sn_app.specs.Desk.{Tray, roster_of}
use Rattle.sn_app.specs.Runs.{Runs, stands_at}
use Rattle.sn_app.specs.declared.halt.Halt.{Halt}
use Rattle.sn_actions.specs.Plains.{apply}
use Rattle.sn_app.specs.World.{IsSound, Used, world}
use Rattle.sn_kind.specs.Kinds.{kind_can_run}
use Rattle.sn_link.specs.Link.{Line}
use Rattle.sn_names.specs.LinkOrder.{link_cmp}
use Rattle.sn_names.specs.declared.class.Class.{Class}
use Rattle.sn_names.specs.declared.link.LinkSpec.{LinkSpec}
use Rattle.sn_wiring.specs.Links.{FitsRoster, HasLines}
use Rattle.sn_wiring.specs.Wired.{Wired}
use Rattle.sn_network.specs.Orders.{pull_order, push_order}
use Rattle.sn_network.specs.Acting.{acts}
use Rattle.sn_network.specs.Places.{class_in, kept_in, named_in, net_of}
use Rattle.sn_network.specs.declared.place.Place.{Place}

-- each app can run
abbrev pub CanRun : List Place → Tray → Type 0
CanRun places t = (i : ℕ) (place : Place) → slice_get places i ≡ Some place → kind_can_run place.kind t

-- the class of the app of a name, as a plain form has it
abbrev pub class_of : PlainForm → List ℕ → Option Class
class_of plain name = option_map (λ spec. spec.class) (finmap.get plain.apps name)

-- The links of the slab are those of the plain form, and they are named in the roster.
pub record HasPlainLinks (slots : List (Option Line)) (links : finset.FinSet link_cmp) (roster : List LinkSpec) : Type 0 where
  pub lines : HasLines roster slots links
  pub fits : FitsRoster roster slots
  pub listed : (link : LinkSpec) → finset.contains links link ≡ true → HasLink roster link

-- The apps of the network are those of the plain form: each name stands once, with its class, and each app can run.
pub record HasPlainApps (places : List Place) (plain : PlainForm) (t : Tray) : Type 0 where
  pub once : (name : List ℕ) → named_in name places ≤ 1
  pub classes : (name : List ℕ) → class_in places name ≡ class_of plain name
  pub ready : CanRun places t

-- A network stands over a context: apps and links are those of its plain form, which is consistent, and each packet is in one
-- place.
pub record Stands (places : List Place) (slots : List (Option Line)) (plain : PlainForm) (t : Tray) (u : Used) : Type 0 where
  pub apps : HasPlainApps places plain t
  pub links : HasPlainLinks slots plain.links (roster_of t).links
  pub consistent : IsConsistent plain
  pub sound : IsSound (world t u slots) (kept_in places)

-- the name of the app at a place
abbrev pub name_in : List Place → ℕ → Option (List ℕ)
name_in places i = option_map (λ place. place.name) (slice_get places i)

-- an order by places has these names
abbrev pub IsOrder : List Place → List ℕ → List (List ℕ) → Type 0
IsOrder places order names = map (name_in places) order ≡ map (λ name. Some name) names

-- the inputs and outputs of all apps are those that the plain form has
abbrev pub AreWired : List Place → List (Option Line) → PlainForm → List LinkSpec → Type 0
AreWired places slots plain roster = (i : ℕ) (place : Place) → slice_get places i ≡ Some place
    → Wired slots roster plain.ins place.name place.ins.items × Wired slots roster plain.outs place.name place.outs.items

-- A network can breathe: it stands, and its ports and its orders are those of the plain form.
pub record Breathes (places : List Place) (slots : List (Option Line)) (plain : PlainForm) (pulls pushes : List ℕ) (t : Tray)
    (u : Used) : Type 0 where
  pub stands : Stands places slots plain t u
  pub wired : AreWired places slots plain (roster_of t).links
  pub pulled : IsOrder places pulls (pull_order plain)
  pub pushed : IsOrder places pushes (push_order plain)

-- what an action names is there: an app's row, its argument, which its class takes, and what that names; a link's row
abbrev pub Finds : Action → Tray → Type 0
Finds (StartApp name spec) t =
    HasName (roster_of t).apps name × (IsArgOf spec.class spec.arg × ArgIsThere spec.class spec.arg t)
Finds (ReconfigApp name spec) t = IsArgOf spec.class spec.arg × ArgIsThere spec.class spec.arg t
Finds (NewLink link) t = HasLink (roster_of t).links link
Finds action t = Unit {0}

-- the actions that put links to ports and take them from there
abbrev pub IsWiring : Action → Type 0
IsWiring (UnlinkOutput link) = Unit {0}
IsWiring (UnlinkInput link) = Unit {0}
IsWiring (LinkOutput link) = Unit {0}
IsWiring (LinkInput link) = Unit {0}
IsWiring action = ⊥

-- An action was taken: the network is the one that the action makes, it stands, and also where it halted its links can be lost.
pub record Took (action : Action) (plain after : PlainForm) (places new : List Place) (slots later : List (Option Line))
    (t s : Tray) (u v : Used) (r : Result Unit Halt) : Type 0 where
  pub runs : Runs (acts action (net_of plain places u t)) (world t u slots) (world s v later) (kept_in places) (kept_in new)
      (stands_at (net_of after new v s) r)
  pub taken : OnOk r (apply action plain ≡ Ok after)
  pub stands : OnOk r (Stands new later after s v)
  pub fits : FitsRoster (roster_of s).links later
