-- What the two logs of an interlink say when it is closed: the life of each end, and that it was first in, first out.
use Rattle.std.specs.Prelude.{◌≡◌, ◌≤◌, ◌<◌, ℕ, ◌+◌, ◌/◌, Bool, true, false, not, ◌&&◌, ◌==◌, Option, Some, None, option_and_then, List, [], ◌∷◌, ◌++◌, length, slice_get, if◌then◌else◌}
use Rattle.sn_core.specs.declared.events.Side.{Side}
use Rattle.sn_core.specs.declared.events.Side.TheVariants.{Tx, Rx}
use Rattle.sn_packet.specs.Packet.{PacketState}
use Rattle.sn_interlink.specs.declared.entry.LaneEntry.{LaneEntry}
use Rattle.sn_interlink.specs.declared.entry.LaneEntry.TheVariants.{Attach, Unattached, Detach, Reset, Seen, Room, Put, Take, Drain}
use Rattle.sn_interlink.specs.declared.view.EndState.{EndState}
use Rattle.sn_interlink.specs.declared.view.EndState.TheVariants.{Out, Up, Closing}
use Rattle.sn_interlink.specs.Course.{field_in, state_after, is_down}

-- THE LIFE OF AN END

abbrev pub where_true : {A : Type 0} → Bool → A → Option A
where_true true x = Some x
where_true false x = None

-- an end comes up from a word that isn't down and in which it isn't up
abbrev pub may_come : Side → ℕ → Bool
may_come side word = not (is_down word) && not (field_in side word == 1)

-- it doesn't come up: the words loaded and found are one exactly where that word is down
abbrev pub both_or_neither : Bool → Bool → Bool
both_or_neither true b = b
both_or_neither false b = not b

abbrev pub missed_well : ℕ → ℕ → Bool
missed_well seen found = both_or_neither (is_down seen) (found == seen)

-- the state after an entry of this end; None where the entry may not stand there
abbrev pub next_state : Side → EndState → LaneEntry → Option EndState
next_state side Out (Attach word) = where_true (may_come side word) Up
next_state side Out (Unattached seen found) = where_true (missed_well seen found) Out
next_state side Up (Detach word) = where_true (field_in side word == 1) (state_after side word)
next_state Tx Up (Room n) = Some Up
next_state Tx Up (Put place packets) = Some Up
next_state Rx Up (Seen n) = Some Up
next_state Rx Up (Take place packets) = Some Up
next_state side Closing (Unattached seen found) = where_true (missed_well seen found) Closing
next_state Tx Closing (Room n) = Some Closing
next_state Rx Closing (Seen n) = Some Closing
next_state side Closing (Drain place packets) = Some Closing
next_state side Closing Reset = Some Out
next_state side state entry = None

abbrev pub state_by : Side → EndState → List LaneEntry → Option EndState
state_by side state [] = Some state
state_by side state (entry ∷ entries) = option_and_then (λ next. state_by side next entries) (next_state side state entry)

-- Coming up and going alternate, from a word that allows it; an end closes exactly where the other one isn't up; drains stand
-- only between a closer's going and its reset, which stands once after it. At the end the end is out.
abbrev pub IsLife : Side → List LaneEntry → Type 0
IsLife side log = state_by side Out log ≡ Some Out

-- FIRST IN, FIRST OUT

-- packets with their positions, from this one on
abbrev pub numbered : ℕ → List PacketState → List (ℕ × PacketState)
numbered place [] = []
numbered place (packet ∷ packets) = (place, packet) ∷ numbered (place + 1) packets

-- what the entries of a log put, take and drain, with positions
abbrev pub put_by : LaneEntry → List (ℕ × PacketState)
put_by (Put place packets) = numbered place packets
put_by entry = []

abbrev pub taken_by : LaneEntry → List (ℕ × PacketState)
taken_by (Take place packets) = numbered place packets
taken_by entry = []

abbrev pub drained_by : LaneEntry → List (ℕ × PacketState)
drained_by (Drain place packets) = numbered place packets
drained_by entry = []

abbrev pub all_by : (LaneEntry → List (ℕ × PacketState)) → List LaneEntry → List (ℕ × PacketState)
all_by f [] = []
all_by f (entry ∷ entries) = f entry ++ all_by f entries

-- how a position was received: taken by the receiver, or drained by an end
pub data Way : Type 0 where
  by_take : Way
  by_drain : Side → Way

abbrev pub is_take : Way → Bool
is_take by_take = true
is_take (by_drain side) = false

abbrev pub is_drain : Side → Way → Bool
is_drain side by_take = false
is_drain Tx (by_drain Tx) = true
is_drain Tx (by_drain Rx) = false
is_drain Rx (by_drain Tx) = false
is_drain Rx (by_drain Rx) = true

abbrev pub if_so : Bool → ℕ × PacketState → List (ℕ × PacketState)
if_so true x = x ∷ []
if_so false x = []

-- the packets that were received so, with their positions
abbrev pub chosen : (Way → Bool) → ℕ → List Way → List PacketState → List (ℕ × PacketState)
chosen test place [] packets = []
chosen test place (way ∷ ways) [] = []
chosen test place (way ∷ ways) (packet ∷ packets) = if_so (test way) (place, packet) ++ chosen test (place + 1) ways packets

-- the positions at which the transmitter came up from a field 0, so that a session begins
abbrev pub begins_from : ℕ → List LaneEntry → List ℕ
begins_from place [] = []
begins_from place (Attach word ∷ entries) = (if word / 4 == 0 then place ∷ [] else []) ++ begins_from place entries
begins_from place (Put first packets ∷ entries) = begins_from (place + length packets) entries
begins_from place (entry ∷ entries) = begins_from place entries

-- a position among these
abbrev pub Among : List ℕ → ℕ → Type 0
Among places place = (k : ℕ) × (slice_get places k ≡ Some place)

-- a session begins after position i, and at or before position j
pub record BeginsBetween (begins : List ℕ) (i j : ℕ) : Type 0 where
  pub place : ℕ
  pub there : Among begins place
  pub after : i < place
  pub before : place ≤ j

-- in each session what is taken stands before what is drained
abbrev pub TakesComeFirst : List ℕ → List Way → Type 0
TakesComeFirst begins ways = (i j : ℕ) (side : Side) → i < j → slice_get ways i ≡ Some (by_drain side)
    → slice_get ways j ≡ Some by_take → BeginsBetween begins i j

-- how often an end came up from the word 0, and how often it set the interlink free
abbrev pub begun_by : LaneEntry → ℕ
begun_by (Attach word) = if word == 0 then 1 else 0
begun_by entry = 0

abbrev pub reset_by : LaneEntry → ℕ
reset_by Reset = 1
reset_by entry = 0

abbrev pub total_by : (LaneEntry → ℕ) → List LaneEntry → ℕ
total_by f [] = 0
total_by f (entry ∷ entries) = f entry + total_by f entries

-- The two logs, and the receipt's numbers: all that was put was received, position by position, each once and in order, with
-- the same number, turn and bytes
pub record Fifo (tx rx : List LaneEntry) (put taken : ℕ) : Type 0 where
  pub packets : List PacketState
  pub ways : List Way
  pub puts : all_by put_by tx ≡ numbered 0 packets
  pub takes : all_by taken_by rx ≡ chosen is_take 0 ways packets
  pub drains_tx : all_by drained_by tx ≡ chosen (is_drain Tx) 0 ways packets
  pub drains_rx : all_by drained_by rx ≡ chosen (is_drain Rx) 0 ways packets
  pub all : length ways ≡ length packets
  pub put_is : put ≡ length packets
  pub taken_is : taken ≡ length packets
  pub sessions : TakesComeFirst (begins_from 0 tx) ways
  pub resets : total_by reset_by tx + total_by reset_by rx ≡ total_by begun_by tx + total_by begun_by rx
