-- A slot in memory, as contracts see it with the captures that its seat shares.
use Rattle.std.specs.Prelude.{ℕ, ◌≡◌, ◌++◌, Bool, true, false, List}
use Rattle.sn_actions.specs.declared.action.Action.{Action}
use Rattle.sn_app.specs.Desk.{Desk, Tray}
use Rattle.sn_app.specs.Reader.{done}
use Rattle.sn_app.specs.World.{Used, desk_of}
use Rattle.sn_journal.specs.declared.entry.Entry.{Entry}
use Rattle.sn_journal.specs.declared.slot_state.SlotState.{SlotState}
use Rattle.sn_journal.specs.declared.slot_state.SlotState.TheVariants.{Running}
use Rattle.sn_seat.specs.Fitting.{Bond}
use Rattle.sn_seat.specs.Trays.{Fits, bond_of, seat_tray, seat_used}
use Rattle.sn_seat.specs.declared.seat.Seat.{Seat}
use Rattle.sn_seat.specs.declared.shared.Shared.{Shared}
use Rattle.sn_worker.specs.SlotTurns.{slot_round}
use Rattle.sn_worker.specs.Slots.{SlotLife}
use Rattle.sn_worker.specs.Workers.{CanWork, plan_in, slot_life_of, world_around}
use Rattle.sn_worker.specs.declared.slot.Slot.{Slot}

-- its seat, its worker's plan, to what it belongs, and what its worker's speaker had said when they met last
abbrev pub slot_seat : Slot → Seat
slot_seat slot = slot.seat

abbrev pub slot_plan : Slot → List Action
slot_plan slot = plan_in slot.worker

abbrev pub slot_bond : Slot → Bond
slot_bond slot = bond_of slot.seat

abbrev pub slot_met : Slot → ℕ
slot_met slot = (slot_bond slot).wiring.met

-- the shared objects are those to which it belongs
abbrev pub SlotFits : Slot → Shared → Type 0
SlotFits slot shared = Fits slot.seat shared

-- its tray, the packets in use, its life, and the desk that shows it
abbrev pub slot_tray : List (List ℕ) → Slot → Tray
slot_tray captures slot = seat_tray captures slot.seat

abbrev pub slot_used : Slot → Used
slot_used slot = seat_used slot.seat

abbrev pub slot_life : List (List ℕ) → Slot → SlotLife
slot_life captures slot = slot_life_of slot.worker slot.breathed (slot_used slot) (slot_tray captures slot)

abbrev pub slot_desk : List (List ℕ) → Slot → Desk
slot_desk captures slot = desk_of (world_around slot.worker (slot_used slot) (slot_tray captures slot))

-- whether its worker is spent, and how the slot stands
abbrev pub slot_spent : Slot → Bool
slot_spent slot = slot.worker.spent

abbrev pub slot_state : Slot → SlotState
slot_state slot = slot.state

-- A slot can run: its worker can work, and it runs and isn't closed.
pub record CanRun (captures : List (List ℕ)) (slot : Slot) : Type 0 where
  pub works : CanWork slot.worker (slot_used slot) (slot_tray captures slot)
  pub runs : slot.state ≡ Running
  pub open_yet : slot.closed ≡ false

-- it was closed
abbrev pub IsClosed : Slot → Type 0
IsClosed slot = slot.closed ≡ true

-- what a slot was made with stays: its plan, how many turns it takes in a round, how often it may be started again, and how many
-- free packets it keeps
pub record SameSlot (before after : Slot) : Type 0 where
  pub plan : slot_plan after ≡ slot_plan before
  pub breaths : after.breaths ≡ before.breaths
  pub restarts : after.restarts ≡ before.restarts
  pub keep : after.keep ≡ before.keep

-- A round was read: these entries were added, and over them, whatever follows, the round's meaning leads from the slot before to
-- the slot after.
pub record RoundRead (captures : List (List ℕ)) (number : ℕ) (before after : Slot) : Type 0 where
  pub entries : List Entry
  pub past : (slot_tray captures after).log.past ≡ (slot_tray captures before).log.past ++ entries
  pub reads : (rest : List Entry)
      → slot_round (slot_plan before) before.breaths (slot_met before) before.keep number (slot_life captures before)
      (slot_desk captures before) (entries ++ rest)
      ≡ done (slot_life captures after) (slot_desk captures after) rest
