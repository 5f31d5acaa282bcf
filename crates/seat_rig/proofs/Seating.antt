-- A worker with one end, over what it shares.
use Rattle.std.proofs.Common.{◌≡◌, ◌∙◌, ◌≤◌, ◌==◌, ℕ, zero, suc, Bool, true, false, List, [], ◌∷◌, Some, None, if◌then◌else◌}
use Rattle.std.proofs.Common.{ap, ap₂, arith, length, refl, slice_get, subst, sym}
use Rattle.sn_channel.specs.Ends.{ChannelId}
use Rattle.sn_group.specs.Seats.{GroupId, GroupState}
use Rattle.sn_core.specs.declared.events.Side.{Side}
use Rattle.sn_core.specs.declared.events.Side.TheVariants.{Rx, Tx}
use Rattle.sn_interlink.specs.Ends.{LaneEnd, LaneId, new_lane_end}
use Rattle.sn_seat.specs.Fitting.{Belongs, Bond}
use Rattle.sn_seat.specs.Openings.{AreNew, all_ends}
use Rattle.sn_seat.specs.SeatEnds.{Numbered, Wire, end_in, has_wire, side_in, times_at, wire_of, wires}
use Rattle.sn_seat.specs.declared.seat_end.SeatEnd.TheVariants.{Receiver, Transmitter}

some_same : {A : Type 0} (x y : A) → Some x ≡ Some y → x ≡ y
some_same x y e = cc

counted : (b : Bool) → (if b then 1 else 0) ≤ 1
counted true = omega arith
counted false = omega arith

abbrev IsNewEnd : Numbered → Type 0
IsNewEnd x = end_in x.1 ≡ new_lane_end (end_in x.1).lane (side_in x.1)

new_at : (x : Numbered) → IsNewEnd x → (k : ℕ) (y : Numbered) → slice_get (x ∷ []) k ≡ Some y → IsNewEnd y
new_at x new zero y there = subst IsNewEnd (some_same x y there) new
new_at x new (suc k) y there = absurd cc

-- one new end
pub one_new : (x : Numbered) → IsNewEnd x → AreNew (x ∷ [])
one_new x new = record {
  once = λ number. let c : (if x.0 == number then 1 else 0) ≤ 1 = counted (x.0 == number) in omega (arith, c);
  each = new_at x new;
}

-- no ends
none_at : (k : ℕ) (y : Numbered) → slice_get [] k ≡ Some y → IsNewEnd y
none_at k y there = absurd cc

pub none_new : AreNew []
none_new = record { once = λ number. omega arith; each = none_at }

-- its interlink stands at its number
abbrev StandsIn : List LaneId → Wire → Type 0
StandsIn lanes w = slice_get lanes w.0 ≡ Some w.2

stands_at : (lanes : List LaneId) (w : Wire) → StandsIn lanes w → (k : ℕ) (v : Wire) → slice_get (w ∷ []) k ≡ Some v
    → StandsIn lanes v
stands_at lanes w stands zero v there = subst (StandsIn lanes) (some_same w v there) stands
stands_at lanes w stands (suc k) v there = absurd cc

none_stands : (lanes : List LaneId) (k : ℕ) (v : Wire) → slice_get [] k ≡ Some v → StandsIn lanes v
none_stands lanes k v there = absurd cc

abbrev bond : ℕ → List Wire → GroupId → ChannelId → ℕ → Bond
bond worker ends group channel met = record {
  worker = worker;
  wiring = record { ends = ends; group = group; channel = channel; met = met };
  captures = 0;
  lanes = 1;
}

belongs : (worker : ℕ) (ends : List Wire) (lanes : List LaneId) (group : GroupState) (mine : GroupId) (channels : List ChannelId)
    (channel : ChannelId) (met captures : ℕ) → ((k : ℕ) (v : Wire) → slice_get ends k ≡ Some v → StandsIn lanes v)
    → mine ≡ group.id → slice_get channels worker ≡ Some channel → captures ≡ 0 → length lanes ≤ 1
    → Belongs (bond worker ends mine channel met) lanes group channels captures
belongs worker ends lanes group mine channels channel met captures stand same heard none one = record {
  ends = stand;
  group_is = same;
  channel = heard;
  captures_are = none;
  lanes_known = one;
}

module _ (b : Bond) (worker : ℕ) (lanes : List LaneId) (group : GroupState) (mine : GroupId) (channels : List ChannelId)
    (channel : ChannelId) (captures : ℕ) where
  -- a worker with one end
  pub one_fits : {met : ℕ} (x : Numbered) → b ≡ bond worker (wires (x ∷ [])) mine channel met
      → slice_get lanes x.0 ≡ Some (end_in x.1).lane → mine ≡ group.id → slice_get channels worker ≡ Some channel → captures ≡ 0
      → length lanes ≤ 1 → Belongs b lanes group channels captures
  one_fits {met} x is stands same heard none one =
      subst (λ a. Belongs a lanes group channels captures) (sym is)
      (belongs worker (wires (x ∷ [])) lanes group mine channels channel met captures (stands_at lanes (wire_of x) stands)
      same heard none one)

  -- a worker with no end
  pub none_fits : {met : ℕ} → b ≡ bond worker [] mine channel met → mine ≡ group.id → slice_get channels worker ≡ Some channel
      → captures ≡ 0 → length lanes ≤ 1 → Belongs b lanes group channels captures
  none_fits {met} is same heard none one =
      subst (λ a. Belongs a lanes group channels captures) (sym is)
      (belongs worker [] lanes group mine channels channel met captures (none_stands lanes) same heard none one)

-- the ends of a worker with one of them
pub all_receiver : {tx rx : List (ℕ × LaneEnd)} {e : LaneEnd} → tx ≡ [] → rx ≡ (0, e) ∷ []
    → all_ends tx rx ≡ (0, Receiver e) ∷ []
all_receiver tx rx = ap₂ all_ends tx rx

pub all_transmitter : {tx rx : List (ℕ × LaneEnd)} {e : LaneEnd} → tx ≡ (0, e) ∷ [] → rx ≡ []
    → all_ends tx rx ≡ (0, Transmitter e) ∷ []
all_transmitter tx rx = ap₂ all_ends tx rx

-- such a worker has the end
pub has_receiver : {has : ℕ → Side → Bool} {ends : List Numbered} {e : LaneEnd} → has ≡ has_wire (wires ends)
    → ends ≡ (0, Receiver e) ∷ [] → has 0 Rx ≡ true
has_receiver has ends = ap (λ h. h 0 Rx) has ∙ ap (λ es. has_wire (wires es) 0 Rx) ends

pub has_transmitter : {has : ℕ → Side → Bool} {ends : List Numbered} {e : LaneEnd} → has ≡ has_wire (wires ends)
    → ends ≡ (0, Transmitter e) ∷ [] → has 0 Tx ≡ true
has_transmitter has ends = ap (λ h. h 0 Tx) has ∙ ap (λ es. has_wire (wires es) 0 Tx) ends

-- the first of a list that is known
pub first_is : {A : Type 0} {xs ys : List A} {x y : A} → xs ≡ x ∷ ys → x ≡ y → slice_get xs 0 ≡ Some y
first_is list same = ap (λ zs. slice_get zs 0) list ∙ ap Some same

pub second_is : {A : Type 0} {xs ys : List A} {w x y : A} → xs ≡ w ∷ x ∷ ys → x ≡ y → slice_get xs 1 ≡ Some y
second_is list same = ap (λ zs. slice_get zs 1) list ∙ ap Some same

-- what a bond says of the ends
pub bond_as : {b : Bond} {worker : ℕ} {ends : List Numbered} {x : Numbered} {group : GroupId} {channel : ChannelId} {met : ℕ}
    → b ≡ bond worker (wires ends) group channel met → ends ≡ x ∷ [] → b ≡ bond worker (wires (x ∷ [])) group channel met
bond_as {b} {worker} {ends} {x} {group} {channel} {met} is same =
    is ∙ ap (λ es. bond worker (wires es) group channel met) same

-- a list of one
pub one_long : {A : Type 0} {xs : List A} {x : A} → xs ≡ x ∷ [] → length xs ≤ 1
one_long list = let e = ap length list in omega (arith, e)
