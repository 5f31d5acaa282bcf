-- What is left of a run whose workers are closed.
use Rattle.std.specs.Prelude.{ℕ, ◌+◌, ◌≡◌, List, [], Some, None, length, map, slice_get, slice_index_or}
use Rattle.sn_app.specs.Desk.{Tray}
use Rattle.sn_app.specs.declared.end_state.EndState.TheVariants.{Out}
use Rattle.sn_core.specs.declared.events.Side.{Side}
use Rattle.sn_core.specs.declared.parts.Packet.{Packet}
use Rattle.sn_group.specs.Cells.{named, weigh}
use Rattle.sn_group.specs.Receipts.{logs_of}
use Rattle.sn_group.specs.Views.{all_gained, all_given}
use Rattle.sn_group.specs.declared.receipt.GroupReceipt.{GroupReceipt}
use Rattle.sn_interlink.specs.Closing.{rx_log, tx_log}
use Rattle.sn_interlink.specs.declared.receipt.LaneReceipt.{LaneReceipt}
use Rattle.sn_journal.specs.HandOvers.{PacketName}
use Rattle.sn_journal.specs.Holding.{gains, losses, weight}
use Rattle.sn_journal.specs.declared.entry.Entry.{Entry}
use Rattle.sn_scenario.specs.declared.lane.Lane.{Lane}
use Rattle.sn_seat.specs.Told.{of_group, of_lane, told_entry}
use Rattle.sn_seat.specs.Trays.{no_captures, seat_tray, seat_used}
use Rattle.sn_seat.specs.declared.seat.Seat.{Seat}
use Rattle.sn_sharing.specs.Kept.{IsSortOf}
use Rattle.sn_sharing.specs.Receipts.{IsFifo}

-- a seat's tray, where captures don't matter
abbrev pub closed_tray : Seat → Tray
closed_tray seat = seat_tray no_captures seat

-- every end of each seat is out
abbrev pub AreOut : List Seat → Type 0
AreOut seats =
    (worker : ℕ) (seat : Seat) → slice_get seats worker ≡ Some seat → (lane : ℕ) (side : Side)
    → ((closed_tray seat).ends lane side).state ≡ Out

-- every packet that a seat holds is free
abbrev pub AreFree : List Seat → Type 0
AreFree seats =
    (worker : ℕ) (seat : Seat) → slice_get seats worker ≡ Some seat → (place : ℕ) → seat_used seat place ≡ None

-- the entries of a worker
abbrev pub journal_at : List (List Entry) → ℕ → List Entry
journal_at journals worker = slice_index_or journals worker []

-- the journals of the interlink's two workers tell its two logs
pub record TellLane (journals : List (List Entry)) (number : ℕ) (lane : Lane) (receipt : LaneReceipt) : Type 0 where
  pub tx : of_lane number (journal_at journals lane.tx) ≡ map told_entry (tx_log receipt)
  pub rx : of_lane number (journal_at journals lane.rx) ≡ map told_entry (rx_log receipt)

-- The journals are the logs: an interlink's entries are the two logs of its receipt, and those of the group are the logs of the
-- group's receipt.
pub record AreLogs (journals : List (List Entry)) (lanes : List Lane) (receipts : List LaneReceipt) (of : GroupReceipt)
    : Type 0 where
  pub as_many : length receipts ≡ length lanes
  pub each : (number : ℕ) (lane : Lane) (receipt : LaneReceipt) → slice_get lanes number ≡ Some lane
      → slice_get receipts number ≡ Some receipt → TellLane journals number lane receipt
  pub grouped : map of_group journals ≡ map (λ log. log.1) (logs_of of)

-- each interlink was first in, first out
abbrev pub AreFifo : List LaneReceipt → Type 0
AreFifo receipts = (number : ℕ) (receipt : LaneReceipt) → slice_get receipts number ≡ Some receipt → IsFifo receipt

-- the packets that opened and all that were given are all that were got and those of the receipt, by any function that weighs
-- packets
abbrev pub IsBalanced : List Packet → GroupReceipt → Type 0
IsBalanced opened receipt =
    (f : ℕ → ℕ → ℕ) → weigh f opened + all_given f (logs_of receipt)
    ≡ all_gained f (logs_of receipt) + weigh f (map named receipt.packets.items)

-- what is listed of each worker are its free packets, rising
pub record AreKept (seats : List Seat) (kept : List (List PacketName)) : Type 0 where
  pub as_many : length kept ≡ length seats
  pub each : (worker : ℕ) (seat : Seat) (names : List PacketName) → slice_get seats worker ≡ Some seat
      → slice_get kept worker ≡ Some names → IsSortOf (closed_tray seat).free names

-- what each worker received is what it gave and what is listed of it, by any function that weighs packets
abbrev pub AreHeld : List (List Entry) → List (List PacketName) → Type 0
AreHeld journals kept =
    (worker : ℕ) (entries : List Entry) (names : List PacketName) → slice_get journals worker ≡ Some entries
    → slice_get kept worker ≡ Some names → (f : ℕ → ℕ → ℕ) → gains f entries ≡ losses f entries + weight f names
