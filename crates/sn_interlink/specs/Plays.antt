-- What an end knows after each step, and what the step tells its caller.
use Rattle.std.specs.Prelude.{◌≡◌, ◌≢◌, ◌≤◌, ◌<◌, ℕ, ◌+◌, ◌-◌, ◌/◌, ◌%◌, ◌^◌, ◌==◌, min, Bool, true, false, [], ◌∷◌, ◌++◌, Option, Some, None, IsSome, unwrap_or}
use Rattle.atomic_table.specs.Table.{Me, Step}
use Rattle.sn_core.specs.declared.events.Side.{Side}
use Rattle.sn_core.specs.declared.events.Side.TheVariants.{Tx, Rx}
use Rattle.sn_packet.specs.Packet.{PacketState, no_packet}
use Rattle.sn_interlink.specs.declared.entry.LaneEntry.TheVariants.{Attach, Unattached, Detach, Reset, Seen, Room, Put, Take, Drain}
use Rattle.sn_interlink.specs.declared.view.EndState.{EndState}
use Rattle.sn_interlink.specs.declared.view.EndState.TheVariants.{Out, Up, Closing}
use Rattle.sn_interlink.specs.declared.view.Hand.TheVariants.{Nothing, Writing, Reading}
use Rattle.sn_interlink.specs.declared.view.Known.{Known}
use Rattle.sn_interlink.specs.declared.view.View.{View}
use Rattle.sn_interlink.specs.declared.view.View.TheVariants.{Fresh, One, Both, Spent}
use Rattle.sn_interlink.specs.Course.{field_in, state_after, is_down, Deed, looks, misses, entries_of}
use Rattle.sn_interlink.specs.Rule.{Lying, new_end, first_of, bound_of, lies_in}
use Rattle.sn_interlink.specs.Moves.{idle, out_of, load_of}

-- what a seat of one end knows
abbrev pub known_of : View → Known
known_of (Fresh tx rx) = tx
known_of (One side v) = v
known_of (Both tx rx) = tx
known_of Spent = new_end None

abbrev pub after_view : (Side → Known → Known) → View → View
after_view f (Fresh tx rx) = Fresh tx rx
after_view f (One side v) = One side (f side v)
after_view f (Both tx rx) = Both tx rx
after_view f Spent = Spent

-- a load of the state word enters the log where the word is down
abbrev pub look_deed_as : Bool → ℕ → Deed
look_deed_as true word = misses word word
look_deed_as false word = looks

abbrev pub look_deed : ℕ → Deed
look_deed word = look_deed_as (is_down word) word

abbrev pub looked_at : ℕ → Known → Known
looked_at word v = record v { log = v.log ++ entries_of (look_deed word); loads = v.loads + 1; seen = Some word }

-- the transmitter's position stays, the receiver's is lost
abbrev pub kept_place : Side → Option ℕ → Option ℕ
kept_place Tx place = place
kept_place Rx place = None

abbrev pub came_up : Side → ℕ → Known → Known
came_up side word v =
    record v { log = v.log ++ Attach word ∷ []; state = Up; seen = None; place = kept_place side v.place; hand = Nothing }

abbrev pub missed : ℕ → ℕ → Known → Known
missed seen found v = record v { log = v.log ++ Unattached seen found ∷ []; seen = None }

-- a closer keeps its position
abbrev pub place_left : EndState → Side → Option ℕ → Option ℕ
place_left Out side place = kept_place side place
place_left Up side place = place
place_left Closing side place = place

abbrev pub went : Side → ℕ → Known → Known
went side word v =
    record v {
      log = v.log ++ Detach word ∷ [];
      state = state_after side word;
      place = place_left (state_after side word) side v.place;
      hand = Nothing;
    }

abbrev pub freed : Side → Known → Known
freed side v = record v { log = v.log ++ Reset ∷ []; state = Out; place = kept_place side v.place; hand = Nothing }

abbrev pub synced_at : ℕ → Known → Known
synced_at read v = record v { far = read; place = Some read }

-- an end's own position, and the packet that lies in a slot
abbrev pub own_of : Known → ℕ
own_of v = unwrap_or v.place 0

abbrev pub packet_of : Lying → PacketState
packet_of lying = unwrap_or lying no_packet

-- the room that a transmitter sees at its own position: 1023 less what is in the ring, and positions end at 2^62
abbrev pub room_by : ℕ → ℕ → ℕ
room_by own read = min (1023 - (own - read)) (2 ^ 62 - own)

abbrev pub roomed : ℕ → Known → Known
roomed read v =
    record v {
      log = v.log ++ Room (room_by (own_of v) read) ∷ [];
      far = read;
      hand = Writing (own_of v) (own_of v + room_by (own_of v) read);
    }

-- a closing transmitter sees what is left
abbrev pub far_roomed : ℕ → Lying → Known → Known
far_roomed read lying v =
    record v { log = v.log ++ Room (room_by (own_of v) read) ∷ []; far = read; hand = Reading read (own_of v) lying }

abbrev pub saw : ℕ → Lying → Known → Known
saw put lying v = record v { log = v.log ++ Seen (put - own_of v) ∷ []; far = put; hand = Reading (own_of v) put lying }

-- what was laid is published
abbrev pub published : PacketState → Known → Known
published packet v =
    record v {
      log = v.log ++ Put (first_of v.hand) (packet ∷ []) ∷ [];
      place = Some (first_of v.hand + 1);
      hand = Writing (first_of v.hand + 1) (bound_of v.hand);
    }

-- the place of a packet that was taken is released, and this lies in the next one
abbrev pub released : Lying → Known → Known
released lying v =
    record v {
      log = v.log ++ Take (first_of v.hand) (packet_of (lies_in v.hand) ∷ []) ∷ [];
      place = Some (first_of v.hand + 1);
      hand = Reading (first_of v.hand + 1) (bound_of v.hand) lying;
    }

-- a closing receiver's position goes on, and a closing transmitter's own stays
abbrev pub place_drained : Side → ℕ → Option ℕ → Option ℕ
place_drained Tx next place = place
place_drained Rx next place = Some next

abbrev pub drained : Side → Lying → Known → Known
drained side lying v =
    record v {
      log = v.log ++ Drain (first_of v.hand) (packet_of (lies_in v.hand) ∷ []) ∷ [];
      place = place_drained side (first_of v.hand + 1) v.place;
      hand = Reading (first_of v.hand + 1) (bound_of v.hand) lying;
    }

-- what a step of one end's seat tells: m and m' are its view, with the slots that are out, before and after, and n is the word
-- found
abbrev pub Tells : Type 1
Tells = Step Lying → Me Lying View → ℕ → Me Lying View → Type 0

-- the view changes so, and the slots of the new hand are out
abbrev pub turned_to : (Side → Known → Known) → Me Lying View → Me Lying View
turned_to f m = (after_view f m.0, out_of (known_of (after_view f m.0)).hand idle)

-- the view changes so, and the same slots are out
abbrev pub told : (Side → Known → Known) → Me Lying View → Me Lying View
told f m = (after_view f m.0, m.1)

-- an end is up
abbrev pub is_up_state : EndState → Bool
is_up_state Out = false
is_up_state Up = true
is_up_state Closing = false

-- a state word as an end finds it: each field is below 3, and the end's own is 1 exactly where the end is up
pub record Finds (side : Side) (state : EndState) (word : ℕ) : Type 0 where
  pub tx : word / 4 < 3
  pub rx : word % 4 < 3
  pub own : (field_in side word == 1) ≡ is_up_state state

-- the seat of an end found this state word
abbrev pub FindsWord : View → ℕ → Type 0
FindsWord view n = (side : Side) (v : Known) → view ≡ One side v → Finds side v.state n

abbrev pub LookPlay : Tells
LookPlay st m n m' = (m' ≡ told (λ side. looked_at n) m) × FindsWord m.0 n

abbrev pub AttachPlay : Tells
AttachPlay st m n m' =
    (n ≡ st.first → m' ≡ turned_to (λ side. came_up side n) m)
    × (n ≢ st.first → m' ≡ told (λ side. missed st.first n) m) × FindsWord m.0 n

abbrev pub DetachPlay : Tells
DetachPlay st m n m' = (m' ≡ turned_to (λ side. went side n) m) × FindsWord m.0 n

abbrev pub ResetPlay : Tells
ResetPlay st m n m' = m' ≡ turned_to freed m

abbrev pub SyncPlay : Tells
SyncPlay st m n m' = (m' ≡ told (λ side. synced_at n) m) × (n ≤ 2 ^ 62)

-- positions to read and to put as an interlink may have them: at most 1023 packets are between them, and positions are at most
-- 2^62
pub record InRing (read put : ℕ) : Type 0 where
  pub order : read ≤ put
  pub most : put ≤ read + 1023
  pub below : put ≤ 2 ^ 62

abbrev pub RoomPlay : Tells
RoomPlay st m n m' = (m' ≡ turned_to (λ side. roomed n) m) × InRing n (own_of (known_of m.0))

abbrev pub FarRoomPlay : Tells
FarRoomPlay st m n m' =
    (lying : Lying) × (m' ≡ turned_to (λ side. far_roomed n lying) m) × InRing n (own_of (known_of m.0))
    × (n < own_of (known_of m.0) → IsSome lying)

abbrev pub SeePlay : Tells
SeePlay st m n m' =
    (lying : Lying) × (m' ≡ turned_to (λ side. saw n lying) m) × InRing (own_of (known_of m.0)) n
    × (own_of (known_of m.0) < n → IsSome lying)

abbrev pub PutPlay : Tells
PutPlay st m n m' = m' ≡ turned_to (λ side. published (packet_of (load_of m.1))) m

-- the next position to be read is within the bound
abbrev pub GoesOn : Known → Type 0
GoesOn v = first_of v.hand + 1 < bound_of v.hand

abbrev pub TakePlay : Tells
TakePlay st m n m' = (lying : Lying) × (m' ≡ turned_to (λ side. released lying) m) × (GoesOn (known_of m.0) → IsSome lying)

abbrev pub DrainPlay : Tells
DrainPlay st m n m' = (lying : Lying) × (m' ≡ turned_to (λ side. drained side lying) m) × (GoesOn (known_of m.0) → IsSome lying)

-- the two parts of a new interlink's view, and both together again
abbrev pub tx_part : View → View
tx_part (Fresh tx rx) = One Tx tx
tx_part (One side v) = One side v
tx_part (Both tx rx) = Both tx rx
tx_part Spent = Spent

abbrev pub rx_part : View → View
rx_part (Fresh tx rx) = One Rx rx
rx_part (One side v) = Spent
rx_part (Both tx rx) = Spent
rx_part Spent = Spent

abbrev pub both_parts : View → View → View
both_parts a b = Both (known_of a) (known_of b)
