-- An end of an interlink as contracts see it, and what each call makes of it.
use Rattle.std.specs.Prelude.{◌≡◌, ◌≤◌, ◌<◌, ℕ, ◌+◌, ◌-◌, ◌^◌, Bool, true, false, List, [], ◌∷◌, ◌++◌, map, Option, Some, None, IsSome, unwrap_or, option_to_list}
use Rattle.atomic_table.specs.Table.{Me}
use Rattle.atomic_table.specs.Seated.{TableId}
use Rattle.sn_core.specs.declared.events.Side.{Side}
use Rattle.sn_core.specs.declared.events.Side.TheVariants.{Tx, Rx}
use Rattle.sn_packet.specs.Packet.{PacketState}
use Rattle.sn_interlink.specs.declared.entry.LaneEntry.{LaneEntry}
use Rattle.sn_interlink.specs.declared.entry.LaneEntry.TheVariants.{Attach, Unattached, Detach, Reset, Seen, Room, Put, Take, Drain}
use Rattle.sn_interlink.specs.declared.view.EndState.{EndState}
use Rattle.sn_interlink.specs.declared.view.EndState.TheVariants.{Out, Up, Closing}
use Rattle.sn_interlink.specs.declared.view.Hand.{Hand}
use Rattle.sn_interlink.specs.declared.view.Hand.TheVariants.{Nothing, Writing, Reading}
use Rattle.sn_interlink.specs.declared.view.Known.{Known}
use Rattle.sn_interlink.specs.declared.view.View.{View}
use Rattle.sn_interlink.specs.declared.view.View.TheVariants.{One}
use Rattle.sn_interlink.specs.Course.{state_after, entries_of}
use Rattle.sn_interlink.specs.Rule.{Lying, lies_in}
use Rattle.sn_interlink.specs.Moves.{Half, idle, laid, taken, out_of, load_of}
use Rattle.sn_interlink.specs.Plays.{known_of, look_deed, room_by, tx_part, rx_part}

-- which interlink it is
abbrev pub LaneId : Type 0
LaneId = TableId

-- an end of an interlink
pub record LaneEnd : Type 0 where
  pub lane : LaneId
  pub side : Side
  pub state : EndState
  pub place : ℕ  -- the position that the end moves next
  pub reach : Option ℕ  -- how many positions it may move by the far word, where it loaded that since it came up or went
  pub synced : Bool  -- its position is known: the transmitter's always, the receiver's from `sync` on until it is out
  pub half : Bool  -- something is laid and not published, or taken out and not released
  pub laid : List PacketState  -- what is laid and not published, at the turn before
  pub log : List LaneEntry  -- its steps, the first first, but for those of `unreleased`
  pub unreleased : List LaneEntry  -- the taking or draining that isn't released
  pub loads : ℕ  -- how often it loaded the state word
  pub seen : Option ℕ  -- what it loaded last of the state word, where it tried no attaching since
  pub far : ℕ  -- what it loaded last of the other end's word

-- the log with what is taken out already
abbrev pub shown_log : LaneEnd → List LaneEntry
shown_log e = e.log ++ e.unreleased

-- how many positions it may move
abbrev pub reach_of : LaneEnd → ℕ
reach_of e = unwrap_or e.reach 0

abbrev pub is_tx : Side → Bool
is_tx Tx = true
is_tx Rx = false

abbrev pub is_on_state : EndState → Bool
is_on_state Out = false
is_on_state Up = true
is_on_state Closing = true

-- a receiver may look: it is up and knows its position, or it closes
abbrev pub if_ready : EndState → Bool → Bool
if_ready Out synced = false
if_ready Up synced = synced
if_ready Closing synced = true

abbrev pub can_look : LaneEnd → Bool
can_look e = if_ready e.state e.synced

-- a packet with its turn raised, and with the turn before
abbrev pub raised : PacketState → PacketState
raised packet = record packet { turn = packet.turn + 1 }

abbrev pub lowered : PacketState → PacketState
lowered packet = record packet { turn = packet.turn - 1 }

-- a new end
abbrev pub new_lane_end : LaneId → Side → LaneEnd
new_lane_end lane side =
    record {
      lane = lane;
      side = side;
      state = Out;
      place = 0;
      reach = None;
      synced = is_tx side;
      half = false;
      laid = [];
      log = [];
      unreleased = [];
      loads = 0;
      seen = None;
      far = 0;
    }

-- the log after one entry more
abbrev pub says : LaneEntry → LaneEnd → LaneEnd
says entry e = record e { log = e.log ++ entry ∷ [] }

-- the state word was loaded: the log says so where it is down
abbrev pub looks_at : ℕ → LaneEnd → LaneEnd
looks_at word e = record e { log = e.log ++ entries_of (look_deed word); loads = e.loads + 1; seen = Some word }

-- it came up from this word, or another one was found
abbrev pub comes_up : ℕ → LaneEnd → LaneEnd
comes_up word e = record (says (Attach word) e) { state = Up; synced = is_tx e.side; seen = None }

abbrev pub stays_out : ℕ → ℕ → LaneEnd → LaneEnd
stays_out seen found e = record (says (Unattached seen found) e) { seen = None }

-- a closer keeps its position
abbrev pub synced_left : EndState → Side → Bool → Bool
synced_left Out side synced = is_tx side
synced_left Up side synced = synced
synced_left Closing side synced = synced

-- it went from this word
abbrev pub goes : ℕ → LaneEnd → LaneEnd
goes word e =
    record (says (Detach word) e) {
      state = state_after e.side word;
      reach = None;
      synced = synced_left (state_after e.side word) e.side e.synced;
    }

-- the closing end set the interlink free
abbrev pub sets_free : LaneEnd → LaneEnd
sets_free e = record (says Reset e) { state = Out; reach = None; synced = is_tx e.side }

-- the receiver knows its position
abbrev pub syncs_at : ℕ → LaneEnd → LaneEnd
syncs_at read e = record e { place = read; far = read; synced = true }

-- the transmitter's own position: while it closes, behind what is left
abbrev pub if_closing : EndState → ℕ → ℕ
if_closing Out n = 0
if_closing Up n = 0
if_closing Closing n = n

abbrev pub own_place : LaneEnd → ℕ
own_place e = e.place + if_closing e.state (reach_of e)

-- the transmitter saw room, by the word `read` that it loaded; while it closes it sees what is left
abbrev pub sees_room_as : EndState → ℕ → ℕ → LaneEnd → LaneEnd
sees_room_as Out read own e = e
sees_room_as Up read own e = record (says (Room (room_by own read)) e) { reach = Some (room_by own read); far = read }
sees_room_as Closing read own e =
    record (says (Room (room_by own read)) e) { place = read; reach = Some (own - read); far = read }

-- the receiver saw packets, by the word `write` that it loaded
abbrev pub sees_packets : ℕ → LaneEnd → LaneEnd
sees_packets put e = record (says (Seen (put - e.place)) e) { reach = Some (put - e.place); far = put }

-- something is laid; it is taken back; it is published
abbrev pub lays : PacketState → LaneEnd → LaneEnd
lays packet e = record e { laid = packet ∷ []; half = true }

abbrev pub takes_back : LaneEnd → LaneEnd
takes_back e = record e { laid = []; half = false }

abbrev pub publishes : LaneEnd → LaneEnd
publishes e =
    record (says (Put e.place (map raised e.laid)) e) {
      laid = [];
      half = false;
      place = e.place + 1;
      reach = Some (reach_of e - 1);
    }

-- a packet is taken, or drained; the place is released
abbrev pub takes_out : PacketState → LaneEnd → LaneEnd
takes_out packet e = record e { unreleased = Take e.place (packet ∷ []) ∷ []; half = true }

abbrev pub drains_out : PacketState → LaneEnd → LaneEnd
drains_out packet e = record e { unreleased = Drain e.place (packet ∷ []) ∷ []; half = true }

abbrev pub releases : LaneEnd → LaneEnd
releases e =
    record e { log = e.log ++ e.unreleased; unreleased = []; half = false; place = e.place + 1; reach = Some (reach_of e - 1) }

-- HOW THE FIELDS OF AN END MAKE WHAT CONTRACTS SEE

-- what is half done, by what lies in the slot that is out
abbrev pub laid_as : Lying → Half
laid_as None = idle
laid_as (Some packet) = laid packet

abbrev pub half_by : Bool → Hand → Lying → Half
half_by false hand lying = idle
half_by true Nothing lying = idle
half_by true (Writing first bound) lying = laid_as lying
half_by true (Reading first bound before) lying = taken

abbrev pub lowered_in : Half → List PacketState
lowered_in idle = []
lowered_in (laid packet) = lowered packet ∷ []
lowered_in taken = []

abbrev pub taken_as : EndState → ℕ → List PacketState → LaneEntry
taken_as Out place packets = Take place packets
taken_as Up place packets = Take place packets
taken_as Closing place packets = Drain place packets

abbrev pub unreleased_in : Half → EndState → ℕ → Lying → List LaneEntry
unreleased_in idle state place lying = []
unreleased_in (laid packet) state place lying = []
unreleased_in taken state place lying = taken_as state place (option_to_list lying) ∷ []

abbrev pub reach_by : Bool → ℕ → ℕ → Option ℕ
reach_by true place bound = Some (bound - place)
reach_by false place bound = None

-- the fields of an end
pub record Fields : Type 0 where
  pub side : Side
  pub state : EndState
  pub place : ℕ
  pub bound : ℕ
  pub loaded : Bool
  pub synced : Bool
  pub half : Bool

abbrev pub fields : Side → EndState → ℕ → ℕ → Bool → Bool → Bool → Fields
fields side state place bound loaded synced half =
    record { side = side; state = state; place = place; bound = bound; loaded = loaded; synced = synced; half = half }

-- an end with these fields, which knows v, and in whose slot this lies
abbrev pub end_as : LaneId → Fields → Known → Lying → LaneEnd
end_as lane f v lying =
    record {
      lane = lane;
      side = f.side;
      state = f.state;
      place = f.place;
      reach = reach_by f.loaded f.place f.bound;
      synced = f.synced;
      half = f.half;
      laid = lowered_in (half_by f.half v.hand lying);
      log = v.log;
      unreleased = unreleased_in (half_by f.half v.hand lying) f.state f.place (lies_in v.hand);
      loads = v.loads;
      seen = v.seen;
      far = v.far;
    }

abbrev pub end_of : LaneId → Fields → Me Lying View → LaneEnd
end_of lane f m = end_as lane f (known_of m.0) (load_of m.1)

-- what the end's own position is, by its fields
abbrev pub if_known : Bool → ℕ → ℕ → ℕ
if_known true bound place = bound
if_known false bound place = place

abbrev pub if_synced : Bool → ℕ → Option ℕ
if_synced true place = Some place
if_synced false place = None

abbrev pub place_by : Side → EndState → Fields → Option ℕ
place_by Tx Out f = Some f.place
place_by Tx Up f = Some f.place
place_by Tx Closing f = Some (if_known f.loaded f.bound f.place)
place_by Rx Out f = if_synced f.synced f.place
place_by Rx Up f = if_synced f.synced f.place
place_by Rx Closing f = if_synced f.synced f.place

-- what its hand is
abbrev pub hand_as : Side → EndState → Fields → Lying → Hand
hand_as Tx Out f lying = Nothing
hand_as Tx Up f lying = Writing f.place f.bound
hand_as Tx Closing f lying = Reading f.place f.bound lying
hand_as Rx Out f lying = Nothing
hand_as Rx Up f lying = Reading f.place f.bound lying
hand_as Rx Closing f lying = Reading f.place f.bound lying

abbrev pub hand_by : Bool → Fields → Lying → Hand
hand_by true f lying = hand_as f.side f.state f lying
hand_by false f lying = Nothing

-- a packet is laid with its turn raised
pub record IsRaised (lying : Lying) : Type 0 where
  pub packet : PacketState
  pub what : lying ≡ Some packet
  pub turn : 0 < packet.turn

-- what lies in the slot of a position to be read is a packet
abbrev pub HandFull : Hand → Type 0
HandFull Nothing = Unit {0}
HandFull (Writing first bound) = Unit {0}
HandFull (Reading first bound lying) = first < bound → IsSome lying

-- the fields fit what the end knows, and what lies in its slot
pub record FieldsFit (f : Fields) (v : Known) (lying : Lying) : Type 0 where
  pub state : v.state ≡ f.state
  pub place : v.place ≡ place_by f.side f.state f
  pub hand : v.hand ≡ hand_by f.loaded f (lies_in v.hand)
  pub order : f.loaded ≡ true → f.place ≤ f.bound
  pub half : f.half ≡ true → f.place < f.bound
  pub knows : f.half ≡ true → f.loaded ≡ true
  pub small : f.place ≤ 2 ^ 62
  pub bounded : f.bound ≤ 2 ^ 62
  pub out : f.state ≡ Out → f.loaded ≡ false
  pub tx_synced : f.side ≡ Tx → f.synced ≡ true
  pub rx_synced : f.loaded ≡ true → f.synced ≡ true
  pub closing_synced : f.state ≡ Closing → f.synced ≡ true
  pub full : HandFull v.hand
  pub is_laid : f.half ≡ true → f.side ≡ Tx → f.state ≡ Up → IsRaised lying

-- the fields are those of an end
pub record IsEnd (f : Fields) (m : Me Lying View) : Type 0 where
  pub me : m ≡ (One f.side (known_of m.0), out_of (known_of m.0).hand (half_by f.half (known_of m.0).hand (load_of m.1)))
  pub fit : FieldsFit f (known_of m.0) (load_of m.1)

-- the part of a new interlink's view that an end gets
abbrev pub part_of : Side → View → View
part_of Tx v = tx_part v
part_of Rx v = rx_part v
