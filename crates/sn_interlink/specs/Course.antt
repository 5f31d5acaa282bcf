-- The machine behind an interlink: where a history of steps leads, which step may follow, and what an end's log says of it.
use Rattle.std.specs.Prelude.{◌≡◌, ◌≤◌, ℕ, ◌+◌, ◌*◌, ◌/◌, ◌%◌, ◌^◌, Bool, true, false, not, ◌&&◌, ◌||◌, ◌==◌, List, [], ◌∷◌, ◌++◌, length, drop}
use Rattle.sn_core.specs.declared.events.Side.{Side}
use Rattle.sn_core.specs.declared.events.Side.TheVariants.{Tx, Rx}
use Rattle.sn_packet.specs.Packet.{PacketState}
use Rattle.sn_interlink.specs.declared.entry.LaneEntry.{LaneEntry}
use Rattle.sn_interlink.specs.declared.entry.LaneEntry.TheVariants.{Attach, Unattached, Detach, Reset, Seen, Room, Put, Take, Drain}
use Rattle.sn_interlink.specs.declared.view.EndState.{EndState}
use Rattle.sn_interlink.specs.declared.view.EndState.TheVariants.{Out, Up, Closing}

-- what an end is: absent, up, gone, or gone and closing the interlink
pub data Status : Type 0 where
  absent : Status
  up : Status
  gone : Status
  closing : Status

-- the state of the machine
pub record Course : Type 0 where
  pub tx : Status
  pub rx : Status
  pub puts : List PacketState  -- all packets that were put since the opening, so its length is the next position to put
  pub read : ℕ  -- the next position to read

abbrev pub start : Course
start = record { tx = absent; rx = absent; puts = []; read = 0 }

-- the other end, and the status of an end
abbrev pub other : Side → Side
other Tx = Rx
other Rx = Tx

abbrev pub mine : Side → Course → Status
mine Tx c = c.tx
mine Rx c = c.rx

abbrev pub with_status : Side → Status → Course → Course
with_status Tx s c = record { tx = s; rx = c.rx; puts = c.puts; read = c.read }
with_status Rx s c = record { tx = c.tx; rx = s; puts = c.puts; read = c.read }

-- tests on a status
abbrev pub is_up : Status → Bool
is_up absent = false
is_up up = true
is_up gone = false
is_up closing = false

abbrev pub is_closing : Status → Bool
is_closing absent = false
is_closing up = false
is_closing gone = false
is_closing closing = true

-- up or closing
abbrev pub is_on : Status → Bool
is_on absent = false
is_on up = true
is_on gone = false
is_on closing = true

-- an end closes, so the interlink is down
abbrev pub is_shut : Course → Bool
is_shut c = is_closing c.tx || is_closing c.rx

-- what an end's field of the state word is, and the word
abbrev pub field : Status → ℕ
field absent = 0
field up = 1
field gone = 2
field closing = 2

abbrev pub word_of : Course → ℕ
word_of c = field c.rx + 4 * field c.tx

-- the end as callers see it
abbrev pub state_of : Status → EndState
state_of absent = Out
state_of up = Up
state_of gone = Out
state_of closing = Closing

-- An end's field of a state word, what the field weighs, and the word with the end up. Down: no field is 1, and the word isn't 0.
abbrev pub field_in : Side → ℕ → ℕ
field_in Tx word = word / 4
field_in Rx word = word % 4

abbrev pub unit : Side → ℕ
unit Tx = 4
unit Rx = 1

abbrev pub came_word : Side → ℕ → ℕ
came_word Tx word = word % 4 + 4
came_word Rx word = word / 4 * 4 + 1

abbrev pub is_down : ℕ → Bool
is_down word = not (word == 0) && not (word % 4 == 1) && not (word / 4 == 1)

-- what an end that goes is then, by the other one: it closes where the other isn't up
abbrev pub leaves : Bool → Status
leaves true = gone
leaves false = closing

abbrev pub left_state : Bool → EndState
left_state true = Out
left_state false = Closing

-- the state of an end that goes from this word
abbrev pub state_after : Side → ℕ → EndState
state_after side word = left_state (field_in (other side) word == 1)

-- one step of an end, as far as it changes the machine or enters the log
pub data Deed : Type 0 where
  looks : Deed
  attaches : ℕ → Deed  -- the word found
  misses : ℕ → ℕ → Deed  -- the word loaded, and the word found
  detaches : ℕ → Deed  -- the old word
  resets : Deed
  sees : ℕ → Deed
  rooms : ℕ → Deed
  puts : ℕ → List PacketState → Deed  -- the first position, and the packets
  takes : ℕ → List PacketState → Deed
  drains : ℕ → List PacketState → Deed

abbrev pub after : Side → Deed → Course → Course
after side looks c = c
after side (attaches word) c = with_status side up c
after side (misses seen found) c = c
after side (detaches word) c = with_status side (leaves (is_up (mine (other side) c))) c
after side resets c = record { tx = absent; rx = absent; puts = c.puts; read = c.read }
after side (sees n) c = c
after side (rooms n) c = c
after side (puts place packets) c = record { tx = c.tx; rx = c.rx; puts = c.puts ++ packets; read = c.read }
after side (takes place packets) c = record { tx = c.tx; rx = c.rx; puts = c.puts; read = c.read + length packets }
after side (drains place packets) c = record { tx = c.tx; rx = c.rx; puts = c.puts; read = c.read + length packets }

-- an end comes up from this word
pub record Comes (side : Side) (word : ℕ) (c : Course) : Type 0 where
  pub found : word ≡ word_of c
  pub away : is_up (mine side c) ≡ false
  pub open_yet : is_shut c ≡ false

-- an end that isn't up doesn't come up: the words loaded and found are one exactly where that is down
pub record Misses (side : Side) (seen found : ℕ) (c : Course) : Type 0 where
  pub away : is_up (mine side c) ≡ false
  pub why : is_down seen ≡ (found == seen)

pub record Goes (side : Side) (word : ℕ) (c : Course) : Type 0 where
  pub found : word ≡ word_of c
  pub is_there : mine side c ≡ up

pub record Frees (side : Side) (c : Course) : Type 0 where
  pub closes : mine side c ≡ closing
  pub empty : c.read ≡ length c.puts

-- the end loads the other's word
pub record Looks (side owner : Side) (c : Course) : Type 0 where
  pub whose : side ≡ owner
  pub is_there : is_on (mine side c) ≡ true

-- the transmitter, which is up, puts packets at the next positions: at most 1023 are in the ring, and positions are at most 2^62
pub record Puts (side : Side) (place : ℕ) (packets : List PacketState) (c : Course) : Type 0 where
  pub whose : side ≡ Tx
  pub is_there : c.tx ≡ up
  pub next : place ≡ length c.puts
  pub room : length c.puts + length packets ≤ c.read + 1023
  pub below : length c.puts + length packets ≤ 2 ^ 62

-- the packets at the next positions to read are these
pub record AreNext (place : ℕ) (packets : List PacketState) (c : Course) : Type 0 where
  pub next : place ≡ c.read
  pub most : c.read + length packets ≤ length c.puts
  pub rest : List PacketState
  pub first : drop c.read c.puts ≡ packets ++ rest

pub record Takes (side : Side) (place : ℕ) (packets : List PacketState) (c : Course) : Type 0 where
  pub whose : side ≡ Rx
  pub is_there : c.rx ≡ up
  pub what : AreNext place packets c

pub record Drains (side : Side) (place : ℕ) (packets : List PacketState) (c : Course) : Type 0 where
  pub closes : mine side c ≡ closing
  pub what : AreNext place packets c

-- the step may follow
abbrev pub Enabled : Side → Deed → Course → Type 0
Enabled side looks c = Unit {0}
Enabled side (attaches word) c = Comes side word c
Enabled side (misses seen found) c = Misses side seen found c
Enabled side (detaches word) c = Goes side word c
Enabled side resets c = Frees side c
Enabled side (sees n) c = Looks side Rx c
Enabled side (rooms n) c = Looks side Tx c
Enabled side (puts place packets) c = Puts side place packets c
Enabled side (takes place packets) c = Takes side place packets c
Enabled side (drains place packets) c = Drains side place packets c

-- a history is the steps of both ends, the last one first
abbrev pub History : Type 0
History = List (Side × Deed)

abbrev pub course : History → Course
course [] = start
course (e ∷ es) = after e.0 e.1 (course es)

abbrev pub Legal : History → Type 0
Legal [] = Unit {0}
Legal (e ∷ es) = Enabled e.0 e.1 (course es) × Legal es

-- what a step enters into its end's log
abbrev pub entries_of : Deed → List LaneEntry
entries_of looks = []
entries_of (attaches word) = Attach word ∷ []
entries_of (misses seen found) = Unattached seen found ∷ []
entries_of (detaches word) = Detach word ∷ []
entries_of resets = Reset ∷ []
entries_of (sees n) = Seen n ∷ []
entries_of (rooms n) = Room n ∷ []
entries_of (puts place packets) = Put place packets ∷ []
entries_of (takes place packets) = Take place packets ∷ []
entries_of (drains place packets) = Drain place packets ∷ []

abbrev pub if_own : Side → Side → List LaneEntry → List LaneEntry
if_own Tx Tx entries = entries
if_own Tx Rx entries = []
if_own Rx Tx entries = []
if_own Rx Rx entries = entries

-- an end's log, the first entry first
abbrev pub log_of : Side → History → List LaneEntry
log_of side [] = []
log_of side (e ∷ es) = log_of side es ++ if_own side e.0 (entries_of e.1)

-- which statuses the two ends may have together
abbrev pub ok_pair : Status → Status → Bool
ok_pair absent absent = true
ok_pair absent up = true
ok_pair absent gone = false
ok_pair absent closing = true
ok_pair up absent = true
ok_pair up up = true
ok_pair up gone = true
ok_pair up closing = false
ok_pair gone absent = false
ok_pair gone up = true
ok_pair gone gone = false
ok_pair gone closing = true
ok_pair closing absent = true
ok_pair closing up = false
ok_pair closing gone = true
ok_pair closing closing = false

-- what holds wherever a legal history leads
pub record Sane (c : Course) : Type 0 where
  pub pair : ok_pair c.tx c.rx ≡ true
  pub order : c.read ≤ length c.puts
  pub most : length c.puts ≤ c.read + 1023
  pub below : length c.puts ≤ 2 ^ 62
  pub free : c.tx ≡ absent → c.read ≡ length c.puts
