-- What the steps of a ledger leave as it was.
use Rattle.std.specs.Prelude.{◌≡◌, ℕ, List}
use Rattle.sn_channel.specs.Ends.{ChannelId}
use Rattle.sn_group.specs.Seats.{GroupId}
use Rattle.sn_seat.specs.SeatEnds.{Wire, wires}
use Rattle.sn_seat.specs.declared.ledger.Ledger.{Ledger}

-- which shared objects it belongs to, and what the speaker of its channel had said when they met last, 0 before they met
pub record Wiring : Type 0 where
  pub ends : List Wire
  pub group : GroupId
  pub channel : ChannelId
  pub met : ℕ

abbrev pub wiring_of : Ledger → Wiring
wiring_of l = record {
  ends = wires l.ends.items;
  group = l.group.group;
  channel = l.listener.channel;
  met = l.listener.met;
}

-- all but the journal's room is the same
pub record SameBook (old new : Ledger) : Type 0 where
  pub entries : new.journal.entries ≡ old.journal.entries
  pub hold : new.hold ≡ old.hold
  pub ends : new.ends ≡ old.ends
  pub group : new.group ≡ old.group
  pub listener : new.listener ≡ old.listener
