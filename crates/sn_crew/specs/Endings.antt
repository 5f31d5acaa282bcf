-- What the workers of a run leave.
use Rattle.std.specs.Prelude.{ℕ, ◌≡◌, ◌+◌, ◌-◌, ◌^◌, Bool, true, false, List, [], ◌∷◌, Option, Some, None, length, map}
use Rattle.std.specs.Prelude.{count_by, min, slice_get, sum_by}
use Rattle.sn_app.specs.Answers.{Reads}
use Rattle.sn_app.specs.Counts.{CounterRows}
use Rattle.sn_app.specs.Desk.{Desk}
use Rattle.sn_app.specs.declared.end_state.EndState.TheVariants.{Out}
use Rattle.sn_core.specs.declared.events.Side.{Side}
use Rattle.sn_journal.specs.HandOvers.{PacketName}
use Rattle.sn_journal.specs.declared.entry.Entry.{Entry}
use Rattle.sn_journal.specs.declared.entry.Entry.TheVariants.{Drain, Put, Take}
use Rattle.sn_scenario.specs.Plans.{plan_of}
use Rattle.sn_scenario.specs.Scenarios.{ScenarioForm}
use Rattle.sn_seat.specs.Trays.{bond_of, captures_of, seat_used, tray_in}
use Rattle.sn_seat.specs.declared.seat.Seat.{Seat}
use Rattle.sn_seat.specs.declared.shared.Shared.{Shared}
use Rattle.sn_sharing.specs.Closings.{AreFifo, AreHeld, AreLogs, IsBalanced, closed_tray}
use Rattle.sn_sharing.specs.Columns.{pasts}
use Rattle.sn_sharing.specs.Kept.{IsSortOf}
use Rattle.sn_sharing.specs.LeftEnds.{lists}
use Rattle.sn_sharing.specs.Pools.{pool_packets}
use Rattle.sn_worker.specs.Ends.{left_of}
use Rattle.sn_worker.specs.SlotTurns.{slot_closes}
use Rattle.sn_worker.specs.SlotViews.{CanRun, SlotFits, slot_bond, slot_desk}
use Rattle.sn_crew.specs.Stands.{AfterRounds, Stand}
use Rattle.sn_crew.specs.declared.leaving.Left.{Left}
use Rattle.sn_crew.specs.declared.place.Place.{Place}

-- entries that put a packet into an interlink, and those that took one out
abbrev pub is_put : Entry → Bool
is_put (Put lane position packet turn bytes) = true
is_put _ = false

abbrev pub is_taken : Entry → Bool
is_taken (Take lane position packet turn bytes) = true
is_taken (Drain lane position packet turn) = true
is_taken _ = false

-- how many of them there are in the journals of workers
abbrev pub count_in : (Entry → Bool) → List Stand → ℕ
count_in kind stands = sum_by (λ stand. count_by kind stand.desk.tray.log.past) stands

-- what workers have left, of which these are numbered from this number on
abbrev pub left_from : ScenarioForm → ℕ → List Stand → ℕ
left_from form worker [] = 0
left_from form worker (stand ∷ more) =
    left_of (plan_of worker form) stand.life.life stand.desk + left_from form (worker + 1) more

-- and with it the packets in all interlinks; or the greatest number of 64 bits where that is more
abbrev pub left_by : ScenarioForm → List Stand → ℕ
left_by form stands = min (left_from form 0 stands + (count_in is_put stands - count_in is_taken stands)) (2 ^ 64 - 1)

-- a place's slot can be closed: its seat belongs to what is shared, and it can run
pub record CanClose (shared : Shared) (place : Place) : Type 0 where
  pub fits : SlotFits place.slot shared
  pub can : CanRun (captures_of shared) place.slot

-- The slot of a place was closed, and this is its seat: the closing is read from the slot's desk on to a desk that has the seat's
-- tray. Each end of the seat is out, what it holds is free, and it belongs where the slot did.
pub record LeavesSeat (shared : Shared) (place : Place) (seat : Seat) : Type 0 where
  pub end : Desk
  pub closing : Reads slot_closes (slot_desk (captures_of shared) place.slot) end tt
  pub tray : end.tray ≡ tray_in shared seat
  pub out : (lane : ℕ) (side : Side) → ((closed_tray seat).ends lane side).state ≡ Out
  pub free : (packet : ℕ) → seat_used seat packet ≡ None
  pub bond : bond_of seat ≡ slot_bond place.slot

-- the seats of places, in their order
pub record LeaveSeats (shared : Shared) (places : List Place) (seats : List Seat) : Type 0 where
  pub as_many : length seats ≡ length places
  pub each : (worker : ℕ) (place : Place) (seat : Seat) → slice_get places worker ≡ Some place
      → slice_get seats worker ≡ Some seat → LeavesSeat shared place seat

-- A worker's journal, read again from the opening to its end: so many rounds lead to a stand, and the closing on to this desk.
pub record IsReplay (form : ScenarioForm) (captures : List (List ℕ)) (rounds worker : ℕ) (stand : Stand) (end : Desk)
    : Type 0 where
  pub after : AfterRounds form captures worker rounds stand
  pub closing : Reads slot_closes stand.desk end tt

-- each worker's is: the desks are those at their ends
pub record AreReplays (form : ScenarioForm) (captures : List (List ℕ)) (rounds : ℕ) (stands : List Stand) (ends : List Desk)
    : Type 0 where
  pub as_many : length ends ≡ length stands
  pub each : (worker : ℕ) (stand : Stand) (end : Desk) → slice_get stands worker ≡ Some stand
      → slice_get ends worker ≡ Some end → IsReplay form captures rounds worker stand end

-- the entries, counters and files that stand at an end
abbrev pub entries_at : Desk → List Entry
entries_at end = end.tray.log.past

abbrev pub counters_at : Desk → CounterRows
counters_at end = end.tray.counters

abbrev pub files_at : Desk → List (Option (List ℕ))
files_at end = end.tray.files

-- what is listed of each worker are the free packets of its desk, rising
abbrev pub AreListed : List Desk → List (List PacketName) → Type 0
AreListed ends kept =
    (worker : ℕ) (end : Desk) (names : List PacketName) → slice_get ends worker ≡ Some end → slice_get kept worker ≡ Some names
    → IsSortOf end.tray.free names

-- The workers of a scenario over these captures ended after so many rounds, from these stands on: each worker's journal is read
-- again to its end; the journals are the logs of what they shared, and each interlink was first in, first out; of each packet
-- that a worker holds at its end it is listed that it is kept.
pub record HaveEnded (form : ScenarioForm) (captures : List (List ℕ)) (rounds : ℕ) (stands : List Stand) (left : Left)
    : Type 0 where
  pub ends : List Desk
  pub replays : AreReplays form captures rounds stands ends
  pub journals : pasts left.closed.journals.items ≡ map entries_at ends
  pub counters : left.closed.counters.items ≡ map counters_at ends
  pub files : lists left.closed.files.items ≡ map files_at ends
  pub logs : AreLogs (map entries_at ends) form.lanes left.closed.lanes.items left.closed.group
  pub fifo : AreFifo left.closed.lanes.items
  pub balance : IsBalanced (pool_packets form.settings.pool) left.closed.group
  pub all_kept : length (lists left.closed.kept.items) ≡ length ends
  pub listed : AreListed ends (lists left.closed.kept.items)
  pub held : AreHeld (map entries_at ends) (lists left.closed.kept.items)
  pub left_is : left.left ≡ left_by form stands
  pub scenario : left.scenario ≡ form
