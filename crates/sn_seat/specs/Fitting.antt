-- That shared objects are those to which a seat belongs.
use Rattle.std.specs.Prelude.{ℕ, ◌≡◌, ◌≤◌, List, Some, length, slice_get}
use Rattle.sn_channel.specs.Ends.{ChannelId}
use Rattle.sn_group.specs.Seats.{GroupState}
use Rattle.sn_interlink.specs.Ends.{LaneId}
use Rattle.sn_seat.specs.Ledgers.{Wiring}
use Rattle.sn_seat.specs.SeatEnds.{Wire}

-- A worker by its number, what its ends, group's seat and listener belong to, with what the listener's speaker had said when they
-- met last, and how many captures and interlinks it knows.
pub record Bond : Type 0 where
  pub worker : ℕ
  pub wiring : Wiring
  pub captures : ℕ
  pub lanes : ℕ

-- the same once its listener met its speaker, which had said so much
abbrev pub met_again : ℕ → Bond → Bond
met_again said bond = record bond { wiring = record bond.wiring { met = said } }

-- Each end's interlink stands at its number, the group's seat is this group's, the listener is the one of the channel at the
-- worker's place, there are as many captures as the worker knows, and it knows each interlink.
pub record Belongs (bond : Bond) (lanes : List LaneId) (group : GroupState) (channels : List ChannelId)
    (captures : ℕ) : Type 0 where
  pub ends : (k : ℕ) (w : Wire) → slice_get bond.wiring.ends k ≡ Some w → slice_get lanes w.0 ≡ Some w.2
  pub group_is : bond.wiring.group ≡ group.id
  pub channel : slice_get channels bond.worker ≡ Some bond.wiring.channel
  pub captures_are : captures ≡ bond.captures
  pub lanes_known : length lanes ≤ bond.lanes
