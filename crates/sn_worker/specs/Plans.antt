-- A plan that a worker can take, and a context over which it can.
use Rattle.std.specs.Prelude.{ℕ, ◌≡◌, IsOk, IsTrue, List, Some, slice_get, take, true}
use Rattle.sn_actions.specs.PlainForms.{PlainForm}
use Rattle.sn_actions.specs.Plains.{apply_all}
use Rattle.sn_actions.specs.declared.action.Action.{Action}
use Rattle.sn_app.specs.Calls.{row_of}
use Rattle.sn_app.specs.Desk.{Tray, roster_of}
use Rattle.sn_core.specs.declared.events.Side.TheVariants.{Rx, Tx}
use Rattle.sn_names.specs.Rosters.{RosterRows}
use Rattle.sn_network.specs.Standing.{Finds}
use Rattle.sn_scenario.specs.LaneEnds.{leads_from, leads_to}
use Rattle.sn_scenario.specs.declared.lane.Lane.{Lane}

-- the plain form takes each of these actions, one after another
abbrev pub CanTake : List Action → PlainForm → Type 0
CanTake actions plain = (n : ℕ) → IsOk (apply_all (take n actions) plain)

-- what each of these actions names is there
abbrev pub FindsAll : List Action → Tray → Type 0
FindsAll actions t = (i : ℕ) (action : Action) → slice_get actions i ≡ Some action → Finds action t

-- The context has these rows, and of the interlinks that lead to the worker, or from it, the worker's end.
pub record Serves (rows : RosterRows) (lanes : List Lane) (worker : ℕ) (t : Tray) : Type 0 where
  pub roster : roster_of t ≡ rows
  pub receives : (lane : List ℕ) → leads_to lanes worker lane ≡ true
      → IsTrue (t.log.constants.has_end (row_of rows.lanes lane) Rx)
  pub transmits : (lane : List ℕ) → leads_from lanes worker lane ≡ true
      → IsTrue (t.log.constants.has_end (row_of rows.lanes lane) Tx)
