-- The interlinks of a seat's ends are there.
use Rattle.std.proofs.Common.{◌≡◌, ℕ, suc, ◌<◌, ◌==◌, ◌||◌, ◌∙◌, Bool, true, false, List, [], ◌∷◌, length, Some, refl, sym}
use Rattle.std.proofs.Common.{ap, slice_get, subst}
use Rattle.std.proofs.lemmas.Bool.{and_parts, eqb-true}
use Rattle.std.proofs.lemmas.Option.{slice_get_within}
use Rattle.sn_channel.specs.Ends.{ChannelId}
use Rattle.sn_core.specs.declared.events.Side.{Side}
use Rattle.sn_group.specs.Seats.{GroupState}
use Rattle.sn_interlink.specs.Ends.{LaneId}
use Rattle.sn_app.specs.Desk.{same_side}
use Rattle.sn_seat.specs.Fitting.{Belongs, Bond}
use Rattle.sn_seat.specs.SeatEnds.{Wire, has_wire, wire_is_at}

-- a wire that is there stands somewhere
pub record WireAt (ends : List Wire) (number : ℕ) : Type 0 where
  pub k : ℕ
  pub wire : Wire
  pub there : slice_get ends k ≡ Some wire
  pub number_is : wire.0 ≡ number

wire_at : (ends : List Wire) (number : ℕ) (side : Side) → has_wire ends number side ≡ true → WireAt ends number
wire_at [] number side has = absurd cc
wire_at (w ∷ ends) number side has = by (wire_is_at number side w) refl (wire_at ends number side) has
  where
    by : (b : Bool) → wire_is_at number side w ≡ b → (has_wire ends number side ≡ true → WireAt ends number)
        → (b || has_wire ends number side) ≡ true → WireAt (w ∷ ends) number
    by true is more h = record {
      k = 0;
      wire = w;
      there = refl;
      number_is = eqb-true w.0 number (and_parts (w.0 == number) (same_side w.1 side) is).0;
    }
    by false is more h = let at = more h in record { k = suc at.k; wire = at.wire; there = at.there; number_is = at.number_is }

pub link_within : {bond : Bond} {lanes : List LaneId} {group : GroupState} {channels : List ChannelId} {captures : ℕ}
    → Belongs bond lanes group channels captures → (number : ℕ) (side : Side) → has_wire bond.wiring.ends number side ≡ true
    → number < length lanes
link_within {bond} {lanes} fits number side has =
    let at = wire_at bond.wiring.ends number side has in
    slice_get_within lanes number at.wire.2 (ap (slice_get lanes) (sym at.number_is) ∙ fits.ends at.k at.wire at.there)

-- the channel of a seat's worker, where a seat stayed what it belongs to
pub channel_at : {bond : Bond} {lanes : List LaneId} {group : GroupState} {channels : List ChannelId} {captures : ℕ}
    → Belongs bond lanes group channels captures → (other : Bond) → other ≡ bond
    → slice_get channels other.worker ≡ Some other.wiring.channel
channel_at {channels = channels} fits other same =
    subst (λ (b : Bond). slice_get channels b.worker ≡ Some b.wiring.channel) (sym same) fits.channel
