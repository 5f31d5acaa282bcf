-- A worker in memory, as contracts see it with a context's tray and used packets.
use Rattle.std.specs.Prelude.{ℕ, ◌≡◌, ◌≤◌, List, Ok, length, slice_range, take}
use Rattle.sn_actions.specs.PlainForms.{PlainForm, empty_form}
use Rattle.sn_actions.specs.Plains.{apply_all}
use Rattle.sn_actions.specs.declared.action.Action.{Action}
use Rattle.sn_app.specs.Desk.{Tray}
use Rattle.sn_app.specs.World.{Used, World}
use Rattle.sn_network.specs.Networks.{CanBreathe, kept_by, plain_in, shown, world_of}
use Rattle.sn_scenario.specs.PlanLaws.{committed}
use Rattle.sn_worker.specs.Lives.{Life}
use Rattle.sn_worker.specs.Slots.{SlotLife}
use Rattle.sn_worker.specs.Plans.{CanTake, FindsAll}
use Rattle.sn_worker.specs.declared.worker.Worker.{Worker}

-- its plan
abbrev pub plan_in : Worker → List Action
plan_in worker = worker.plan.items

-- its life
abbrev pub life_of : Worker → Used → Tray → Life
life_of worker used t = record {
  net = shown worker.network used t;
  taken = worker.taken;
  waiting = slice_range worker.plan.items worker.applied worker.taken;
  spent = worker.spent;
}

-- the life of its slot, where so many breaths were taken since a hundred of them were full
abbrev pub slot_life_of : Worker → ℕ → Used → Tray → SlotLife
slot_life_of worker breathed used t = record { life = life_of worker used t; breathed = breathed }

-- the world of a context and its links, and how often a place is among those that its apps keep
abbrev pub world_around : Worker → Used → Tray → World
world_around worker used t = world_of worker.network used t

abbrev pub kept_of : Worker → ℕ → ℕ
kept_of worker = kept_by worker.network

-- How far a plan was taken and applied: those up to the last commit were applied, and the plain form is the one after them.
pub record IsWithin (plan : List Action) (applied taken : ℕ) (form : PlainForm) : Type 0 where
  pub order : applied ≤ taken
  pub within : taken ≤ length plan
  pub cut : committed (take taken plan) ≡ take applied plan
  pub after : apply_all (take applied plan) empty_form ≡ Ok form

-- A worker can work: its network can breathe, the plain form takes its plan, and all that this names is there.
pub record CanWork (worker : Worker) (used : Used) (t : Tray) : Type 0 where
  pub breathes : CanBreathe worker.network used t
  pub within : IsWithin (plan_in worker) worker.applied worker.taken (plain_in worker.network)
  pub takes : CanTake (plan_in worker) empty_form
  pub finds : FindsAll (plan_in worker) t
