-- What contracts see of the receipt of a group's close, beside its packets.
use Rattle.std.specs.Prelude.{ℕ, List}
use Rattle.sn_group.specs.declared.entry.GroupEntry.{GroupEntry}
use Rattle.sn_group.specs.declared.receipt.GroupReceipt.{GroupReceipt}
use Rattle.sn_group.specs.Views.{logs_in}

-- the logs of all seats, each with the seat's number, in the order in which the seats were given
abbrev pub logs_of : GroupReceipt → List (ℕ × List (List GroupEntry))
logs_of receipt = logs_in receipt.logs.value.me.0
