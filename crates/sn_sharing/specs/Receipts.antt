-- The receipts of interlinks whose ends closed workers left.
use Rattle.std.specs.Prelude.{ℕ, ◌≡◌, ◌≢◌, ◌≤◌, List, Some, length, slice_get}
use Rattle.sn_core.specs.declared.events.Side.TheVariants.{Rx, Tx}
use Rattle.sn_interlink.specs.Closing.{rx_log, tx_log}
use Rattle.sn_interlink.specs.Ends.{LaneId}
use Rattle.sn_interlink.specs.Receipt.{Fifo, IsLife}
use Rattle.sn_interlink.specs.declared.receipt.LaneReceipt.{LaneReceipt}
use Rattle.sn_scenario.specs.declared.lane.Lane.{Lane}
use Rattle.sn_seat.specs.SeatEnds.{Numbered}
use Rattle.sn_sharing.specs.LeftEnds.{HasOut, said_at}

-- Of an interlink's receipt: the two logs are lives of the two ends, and what was put came out first in, first out.
pub record IsFifo (receipt : LaneReceipt) : Type 0 where
  pub tx_life : IsLife Tx (tx_log receipt)
  pub rx_life : IsLife Rx (rx_log receipt)
  pub fifo : Fifo (tx_log receipt) (rx_log receipt) receipt.put receipt.taken

-- the receipt of the interlink of this number between these workers: its logs are what their ends said
pub record IsReceiptOf (number tx rx : ℕ) (all : List (List Numbered)) (receipt : LaneReceipt) : Type 0 where
  pub tx_says : tx_log receipt ≡ said_at number tx all
  pub rx_says : rx_log receipt ≡ said_at number rx all
  pub fifo : IsFifo receipt

-- the receipts are those of the interlinks between these workers, by the interlinks' numbers
pub record AreReceipts (lanes : List Lane) (all : List (List Numbered)) (receipts : List LaneReceipt) : Type 0 where
  pub each : (number : ℕ) (lane : Lane) (receipt : LaneReceipt) → slice_get lanes number ≡ Some lane
      → slice_get receipts number ≡ Some receipt → IsReceiptOf number lane.tx lane.rx all receipt

-- the two ends of an interlink are there and out, at two workers
pub record IsClosable (number : ℕ) (lane : Lane) (id : LaneId) (all : List (List Numbered)) : Type 0 where
  pub tx : HasOut Tx number lane.tx id all
  pub rx : HasOut Rx number lane.rx id all
  pub apart : lane.tx ≢ lane.rx

-- each interlink may be closed
pub record AreClosable (lanes : List Lane) (ids : List LaneId) (all : List (List Numbered)) : Type 0 where
  pub as_many : length ids ≡ length lanes
  pub few : length lanes ≤ 16
  pub each : (number : ℕ) (lane : Lane) (id : LaneId) → slice_get lanes number ≡ Some lane → slice_get ids number ≡ Some id
      → IsClosable number lane id all
