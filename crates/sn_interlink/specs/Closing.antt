-- The receipt of a closed interlink as contracts see it, and what an end leaves to it.
use Rattle.std.specs.Prelude.{◌≡◌, List, []}
use Rattle.atomic_table.specs.Table.{Me}
use Rattle.sn_interlink.specs.declared.entry.LaneEntry.{LaneEntry}
use Rattle.sn_interlink.specs.declared.receipt.LaneReceipt.{LaneReceipt}
use Rattle.sn_interlink.specs.declared.view.View.{View}
use Rattle.sn_interlink.specs.declared.view.View.TheVariants.{Fresh, One, Both, Spent}
use Rattle.sn_interlink.specs.declared.view.Known.{Known}
use Rattle.sn_interlink.specs.Rule.{Lying}
use Rattle.sn_interlink.specs.Plays.{known_of}
use Rattle.sn_interlink.specs.Ends.{LaneId, LaneEnd, shown_log}

-- what a joined seat knows of the receiver
abbrev pub other_known : View → Known
other_known (Fresh tx rx) = rx
other_known (One side v) = v
other_known (Both tx rx) = rx
other_known Spent = known_of Spent

-- the logs of the two ends that were closed into a receipt
abbrev pub tx_log : LaneReceipt → List LaneEntry
tx_log receipt = (known_of receipt.ends.value.me.0).log

abbrev pub rx_log : LaneReceipt → List LaneEntry
rx_log receipt = (other_known receipt.ends.value.me.0).log

-- a seat that an end leaves
pub record IsSeatOf (e : LaneEnd) (lane : LaneId) (m : Me Lying View) : Type 0 where
  pub lane_is : lane ≡ e.lane
  pub me : m ≡ (One e.side (known_of m.0), [])
  pub log : (known_of m.0).log ≡ shown_log e
  pub state : (known_of m.0).state ≡ e.state
