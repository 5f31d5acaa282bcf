-- A commit: the apps are the same, and the network is the one that its plain form tells.
use Rattle.std.proofs.Common.{◌≡◌, ℕ, List, Option, Ok, map, refl, sym, ap, subst, ◌∙◌}
use mathlib.Core.Path.{fun_ext}
use Rattle.sn_actions.specs.PlainForms.{PlainForm}
use Rattle.sn_actions.specs.declared.action.Action.TheVariants.{Commit}
use Rattle.sn_app.specs.Desk.{Tray, roster_of}
use Rattle.sn_app.specs.Runs.{Runs}
use Rattle.sn_app.specs.World.{Used, world}
use Rattle.sn_app.proofs.Leaving.{runs_gave}
use Rattle.sn_app.proofs.Running.{runs_as, runs_pure}
use Rattle.sn_link.specs.Link.{Line}
use Rattle.sn_wiring.proofs.Staying.{there_among}
use Rattle.sn_wiring.specs.Wired.{AreThere}
use Rattle.sn_network.specs.Acting.{acts, changes}
use Rattle.sn_network.specs.Orders.{pull_order, push_order}
use Rattle.sn_network.specs.Places.{bare, class_in, kept_in, net_of, states_in}
use Rattle.sn_network.specs.Standing.{AreWired, Breathes, IsOrder, Stands, class_of}
use Rattle.sn_network.specs.declared.place.Place.{Place}
use Rattle.sn_network.proofs.Acted.{acted}
use Rattle.sn_network.proofs.Bare.{classes_bare, kept_bare, stands_bare, states_bare}

module _ (old new : List Place) (same : map bare new ≡ map bare old) (plain : PlainForm) (slots : List (Option Line)) (t : Tray)
    (u : Used) where
  changes_none : Runs (changes Commit (states_in old u t)) (world t u slots) (world t u slots) (kept_in old) (kept_in new)
      (Ok (states_in new u t))
  unfolding changes
  changes_none =
      runs_gave (fun_ext (λ name. sym (states_bare old new same u t name)))
      (runs_as (kept_in old) (kept_in new) (λ q. refl) (kept_bare old new same)
      (runs_pure (states_in old u t) (world t u slots) (kept_in old)))

  pub runs_committed : Runs (acts Commit (net_of plain old u t)) (world t u slots) (world t u slots) (kept_in old) (kept_in new)
      (Ok (net_of plain new u t))
  runs_committed = acted Commit plain plain old new t t u u slots slots (Ok tt) refl changes_none

  pub classes_committed : (seen : List Place) → seen ≡ new → Stands old slots plain t u → (name : List ℕ)
      → class_in seen name ≡ class_of plain name
  classes_committed seen is stands name = ap (λ ps. class_in ps name) is
      ∙ (classes_bare old new same name ∙ stands.apps.classes name)

  pub breathes_committed : (seen again : List Place) (pulls pushes : List ℕ) → seen ≡ new → again ≡ new
      → Stands old slots plain t u
      → AreWired new slots plain (roster_of t).links
      → IsOrder seen pulls (pull_order plain) → IsOrder again pushes (push_order plain)
      → Breathes new slots plain pulls pushes t u
  breathes_committed seen again pulls pushes is too stands wired pulled pushed = record {
    stands = stands_bare old new same slots plain t u stands;
    wired = wired;
    pulled = subst (λ ps. IsOrder ps pulls (pull_order plain)) is pulled;
    pushed = subst (λ ps. IsOrder ps pushes (push_order plain)) too pushed;
  }

-- what is at the ports stands in the slab
module _ (places : List Place) (plain : PlainForm) (slots : List (Option Line)) (t : Tray) (u : Used)
    (stands : Stands places slots plain t u) where
  pub ins_there : AreThere slots (roster_of t).links plain.ins
  ins_there = there_among (roster_of t).links slots plain.links plain.ins stands.links.lines stands.links.listed
      stands.consistent.ins.linked

  pub outs_there : AreThere slots (roster_of t).links plain.outs
  outs_there = there_among (roster_of t).links slots plain.links plain.outs stands.links.lines stands.links.listed
      stands.consistent.outs.linked
