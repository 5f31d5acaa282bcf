-- Each step on an interlink is the core's event on the lane that is read off it.
use Rattle.std.specs.Prelude.{◌≡◌, ◌≢◌, ◌<◌, ℕ, ◌+◌, ◌%◌, ◌^◌, true, false, Some, List, [], ◌∷◌, ◌++◌, slice_get, slice_index}
use Rattle.atomic_table.specs.Table.{State}
use Rattle.sn_core.specs.declared.events.Side.{Side}
use Rattle.sn_core.specs.declared.events.Side.TheVariants.{Tx, Rx}
use Rattle.sn_core.specs.declared.events.Event.{Event}
use Rattle.sn_core.specs.declared.events.Event.TheVariants.{Attach, Detach, Reset, Take, Release, Lay, Publish, TakeBack, DrainTake, DrainRelease}
use Rattle.sn_core.specs.Lane.{LaneState}
use Rattle.sn_core.specs.Lane as lanes
use Rattle.sn_core.specs.Seat.{SeatState, turn_of, has_claimed, with_packet, without_packet}
use Rattle.sn_core.specs.Core.{Core, after, with_lane, with_seat, may_hand_over}
use Rattle.sn_core.specs.Sound.{LaneIsSound}
use Rattle.sn_packet.specs.Packet.{PacketState}
use Rattle.sn_interlink.specs.declared.view.EndState.TheVariants.{Out, Up, Closing}
use Rattle.sn_interlink.specs.declared.view.Hand.{Hand}
use Rattle.sn_interlink.specs.declared.view.Hand.TheVariants.{Nothing, Writing, Reading}
use Rattle.sn_interlink.specs.declared.view.Known.{Known}
use Rattle.sn_interlink.specs.declared.view.View.{View}
use Rattle.sn_interlink.specs.declared.view.View.TheVariants.{One}
use Rattle.sn_interlink.specs.Course.{is_down, came_word, unit}
use Rattle.sn_interlink.specs.Rule.{Lying, lies_in, Rule}
use Rattle.sn_interlink.specs.Moves.{Half, idle, laid, taken, out_of, moved, stayed}
use Rattle.sn_interlink.specs.Plays.{looked_at, came_up, missed, went, freed, synced_at, roomed, far_roomed, saw, published, released, drained}
use Rattle.sn_interlink.specs.Reading.{tag, slot_at, read_lane}

-- an end may have this half done with this hand
abbrev pub MayBe : Hand → Half → Type 0
MayBe h idle = Unit {0}
MayBe Nothing (laid packet) = ⊥
MayBe (Writing first bound) (laid packet) = first < bound
MayBe (Reading first bound lying) (laid packet) = ⊥
MayBe Nothing taken = ⊥
MayBe (Writing first bound) taken = ⊥
MayBe (Reading first bound lying) taken = first < bound

abbrev pub views_by : Side → Known → Known → List View
views_by Tx own far = One Tx own ∷ One Rx far ∷ []
views_by Rx own far = One Tx far ∷ One Rx own ∷ []

-- A table that meets the rule, where this end knows `own` and has `x` half done, and the other one `far` and `y`
pub record Scene (s : State Lying View) (side : Side) (own : Known) (x : Half) (far : Known) (y : Half) : Type 0 where
  pub rule : Rule s
  pub views : s.views ≡ views_by side own far
  pub mine : MayBe own.hand x
  pub others : MayBe far.hand y

abbrev pub outs_by : Side → List (ℕ × Lying) → List (ℕ × Lying) → List (ℕ × Lying)
outs_by Tx own far = own ++ far
outs_by Rx own far = far ++ own

-- the lane that is read there
abbrev pub lane_by : ℕ → ℕ → State Lying View → Side → Known → Half → Known → Half → LaneState
lane_by tx_seat rx_seat s side own x far y = read_lane tx_seat rx_seat s (outs_by side (out_of own.hand x) (out_of far.hand y))

-- every core that has the lane `before` at some place does the event there, and has the lane `later` instead: nothing else
-- changes
abbrev pub Follows : (ℕ → Event) → LaneState → LaneState → Type 0
Follows event before later = (core : Core) (l : ℕ) → slice_get core.lanes l ≡ Some before
    → after core (event l) ≡ Some (with_lane core l later)

-- the same, where the packet moves to the seat of that end, if the core has the seat
abbrev pub Takes : Side → (ℕ → Event) → PacketState → LaneState → LaneState → Type 0
Takes side event packet before later = (core : Core) (l : ℕ) (seat : SeatState) → slice_get core.lanes l ≡ Some before
    → slice_get core.seats (lanes.seat_of side before) ≡ Some seat
    → after core (event l) ≡ Some (with_seat (with_lane core l later) (lanes.seat_of side before) (with_packet (tag packet) seat))

-- the same, where the seat holds the packet, not worn, laid nowhere and under no claim
abbrev pub Lays : PacketState → LaneState → LaneState → Type 0
Lays packet before later = (core : Core) (l : ℕ) (seat : SeatState) → slice_get core.lanes l ≡ Some before
    → slice_get core.seats before.tx_seat ≡ Some seat
    → may_hand_over core packet.number seat ≡ true → has_claimed packet.number seat ≡ false
    → after core (Lay l packet.number) ≡ Some (with_lane core l later)

-- the same, where the packet leaves the seat, which holds it at the turn before
abbrev pub Publishes : PacketState → LaneState → LaneState → Type 0
Publishes packet before later = (core : Core) (l : ℕ) (seat : SeatState) (turn : ℕ)
    → slice_get core.lanes l ≡ Some before → slice_get core.seats before.tx_seat ≡ Some seat
    → turn_of packet.number seat ≡ Some turn → packet.turn ≡ turn + 1
    → after core (Publish l) ≡ Some (with_seat (with_lane core l later) before.tx_seat (without_packet packet.number seat))

-- THE STATE WORD

-- a load of the state word
abbrev pub LookLaw : Type 0
LookLaw = (t r : ℕ) (s : State Lying View) (side : Side) (v : Known) (x : Half) (u : Known) (y : Half) (n : ℕ)
    → Scene s side v x u y → slice_index s.words 0 ≡ n
    → lane_by t r (stayed s 0 n side v x (looked_at n v)) side (looked_at n v) x u y ≡ lane_by t r s side v x u y

-- an attaching from the word found, and one that finds another word
abbrev pub AttachLaw : Type 0
AttachLaw = (t r : ℕ) (s : State Lying View) (side : Side) (v u : Known) (y : Half) (n : ℕ) → Scene s side v idle u y
    → v.state ≡ Out → slice_index s.words 0 ≡ n → is_down n ≡ false
    → Follows (λ l. Attach l side) (lane_by t r s side v idle u y)
    (lane_by t r (moved s 0 (came_word side n) side v idle (came_up side n v)) side (came_up side n v) idle u y)

abbrev pub MissLaw : Type 0
MissLaw = (t r : ℕ) (s : State Lying View) (side : Side) (v u : Known) (y : Half) (seen n : ℕ) → Scene s side v idle u y
    → v.state ≡ Out → slice_index s.words 0 ≡ n → is_down seen ≡ false → n ≢ seen
    → lane_by t r (stayed s 0 n side v idle (missed seen n v)) side (missed seen n v) idle u y ≡ lane_by t r s side v idle u y

abbrev pub DetachLaw : Type 0
DetachLaw = (t r : ℕ) (s : State Lying View) (side : Side) (v u : Known) (y : Half) (n : ℕ) → Scene s side v idle u y
    → v.state ≡ Up → slice_index s.words 0 ≡ n
    → Follows (λ l. Detach l side) (lane_by t r s side v idle u y)
    (lane_by t r (moved s 0 ((n + unit side) % 2 ^ 64) side v idle (went side n v)) side (went side n v) idle u y)

-- the closing end has nothing left by its hand
abbrev pub ResetLaw : Type 0
ResetLaw = (t r : ℕ) (s : State Lying View) (side : Side) (v u : Known) (y : Half) (first : ℕ) (lying : Lying)
    → Scene s side v idle u y → v.state ≡ Closing → v.hand ≡ Reading first first lying
    → Follows (λ l. Reset l side) (lane_by t r s side v idle u y)
    (lane_by t r (moved s 0 0 side v idle (freed side v)) side (freed side v) idle u y)

-- THE RING

abbrev pub SyncLaw : Type 0
SyncLaw = (t r : ℕ) (s : State Lying View) (v : Known) (x : Half) (u : Known) (y : Half) (n : ℕ) → Scene s Rx v x u y
    → v.state ≡ Up → slice_index s.words 2 ≡ n
    → lane_by t r (stayed s 2 n Rx v x (synced_at n v)) Rx (synced_at n v) x u y ≡ lane_by t r s Rx v x u y

abbrev pub RoomLaw : Type 0
RoomLaw = (t r : ℕ) (s : State Lying View) (v u : Known) (y : Half) (n : ℕ) → Scene s Tx v idle u y → v.state ≡ Up
    → slice_index s.words 2 ≡ n
    → lane_by t r (moved s 2 n Tx v idle (roomed n v)) Tx (roomed n v) idle u y ≡ lane_by t r s Tx v idle u y

-- the closing transmitter sees what is left; `lying` is what lies at the next position to read
abbrev pub FarRoomLaw : Type 0
FarRoomLaw = (t r : ℕ) (s : State Lying View) (v u : Known) (y : Half) (n : ℕ) → Scene s Tx v idle u y
    → v.state ≡ Closing → slice_index s.words 2 ≡ n
    → let w = far_roomed n (slot_at s.homes (outs_by Tx (out_of v.hand idle) (out_of u.hand y)) (n % 1024)) v in
    lane_by t r (moved s 2 n Tx v idle w) Tx w idle u y ≡ lane_by t r s Tx v idle u y

abbrev pub SeeLaw : Type 0
SeeLaw = (t r : ℕ) (s : State Lying View) (v u : Known) (y : Half) (n own : ℕ) → Scene s Rx v idle u y
    → v.place ≡ Some own → slice_index s.words 1 ≡ n
    → let w = saw n (slot_at s.homes (outs_by Rx (out_of v.hand idle) (out_of u.hand y)) (own % 1024)) v in
    lane_by t r (moved s 1 n Rx v idle w) Rx w idle u y ≡ lane_by t r s Rx v idle u y

-- the receiver takes the packet that lies there, and releases the place
abbrev pub TakeLaw : Type 0
TakeLaw = (t r : ℕ) (s : State Lying View) (v u : Known) (y : Half) (p : PacketState) → Scene s Rx v idle u y
    → v.state ≡ Up → MayBe v.hand taken → lies_in v.hand ≡ Some p
    → Takes Rx (λ l. Take l) p (lane_by t r s Rx v idle u y) (lane_by t r s Rx v taken u y)

abbrev pub ReleaseLaw : Type 0
ReleaseLaw = (t r : ℕ) (s : State Lying View) (v u : Known) (y : Half) (first bound : ℕ) (p : PacketState)
    → Scene s Rx v taken u y → v.state ≡ Up → v.hand ≡ Reading first bound (Some p)
    → let w = released (slot_at s.homes (outs_by Rx (out_of v.hand taken) (out_of u.hand y)) ((first + 1) % 1024)) v in
    Follows (λ l. Release l) (lane_by t r s Rx v taken u y) (lane_by t r (moved s 2 (first + 1) Rx v taken w) Rx w idle u y)

-- the transmitter lays a packet, takes it back, or publishes it
abbrev pub LayLaw : Type 0
LayLaw = (t r : ℕ) (s : State Lying View) (v u : Known) (y : Half) (p : PacketState) → Scene s Tx v idle u y
    → MayBe v.hand (laid p)
    → Lays p (lane_by t r s Tx v idle u y) (lane_by t r s Tx v (laid p) u y)

abbrev pub TakeBackLaw : Type 0
TakeBackLaw = (t r : ℕ) (s : State Lying View) (v u : Known) (y : Half) (p : PacketState) → Scene s Tx v (laid p) u y
    → Follows (λ l. TakeBack l) (lane_by t r s Tx v (laid p) u y) (lane_by t r s Tx v idle u y)

abbrev pub PublishLaw : Type 0
PublishLaw = (t r : ℕ) (s : State Lying View) (v u : Known) (y : Half) (first bound : ℕ) (p : PacketState)
    → Scene s Tx v (laid p) u y → v.hand ≡ Writing first bound
    → Publishes p (lane_by t r s Tx v (laid p) u y)
    (lane_by t r (moved s 1 (first + 1) Tx v (laid p) (published p v)) Tx (published p v) idle u y)

-- the closing end drains the packet that lies there, and releases the place
abbrev pub DrainTakeLaw : Type 0
DrainTakeLaw = (t r : ℕ) (s : State Lying View) (side : Side) (v u : Known) (y : Half) (p : PacketState)
    → Scene s side v idle u y → v.state ≡ Closing → MayBe v.hand taken → lies_in v.hand ≡ Some p
    → Takes side (λ l. DrainTake l side) p (lane_by t r s side v idle u y) (lane_by t r s side v taken u y)

abbrev pub DrainReleaseLaw : Type 0
DrainReleaseLaw =
    (t r : ℕ) (s : State Lying View) (side : Side) (v u : Known) (y : Half) (first bound : ℕ) (p : PacketState)
    → Scene s side v taken u y → v.state ≡ Closing → v.hand ≡ Reading first bound (Some p)
    → let w = drained side (slot_at s.homes (outs_by side (out_of v.hand taken) (out_of u.hand y)) ((first + 1) % 1024)) v in
    Follows (λ l. DrainRelease l side) (lane_by t r s side v taken u y)
    (lane_by t r (moved s 2 (first + 1) side v taken w) side w idle u y)

-- WHAT IS READ IS SOUND

abbrev pub SoundLaw : Type 0
SoundLaw = (t r : ℕ) (s : State Lying View) (side : Side) (v : Known) (x : Half) (u : Known) (y : Half)
    → Scene s side v x u y → LaneIsSound (lane_by t r s side v x u y)
