-- One lane: its state, and for each atomic step on it the condition and the state after.
use Rattle.std.specs.Prelude.{ℕ, zero, suc, ◌+◌, ◌-◌, ◌==◌, Bool, true, false, not, ◌&&◌, Option, Some, None, is_some, List, [], ◌∷◌, ◌++◌, map, length, take, drop, count_by, nat_lt}
use Rattle.std.specs.List.{list_any}
use Rattle.sn_core.specs.declared.events.Side.{Side}
use Rattle.sn_core.specs.declared.events.Side.TheVariants.{Tx, Rx}
use Rattle.sn_core.specs.declared.parts.Field.{Field}
use Rattle.sn_core.specs.declared.parts.Field.TheVariants.{Absent, Up, Gone}
use Rattle.sn_core.specs.declared.parts.Packet.{Packet}

-- the state of one lane between two seats
pub record LaneState : Type 0 where
  pub tx_seat : ℕ
  pub rx_seat : ℕ
  pub tx : Field
  pub rx : Field
  pub put : ℕ  -- the next position to put
  pub read : ℕ  -- the next position in the word that the receiver writes
  pub queue : List (Option Packet)  -- the published packets from `read` on, with an emptied place as None
  pub laid : List ℕ  -- the numbers of the packets that lie in the next places, unpublished
  pub closes : Option Side  -- which end closes

-- the most packets in a queue, laid ones included: one of the ring's 1,024 places stays free
abbrev pub most_queued : ℕ
most_queued = 1023

-- the most packets that may be laid at once, and the most places that may be emptied and not released
abbrev pub most_laid : ℕ
most_laid = 1

abbrev pub most_unreleased : ℕ
most_unreleased = 1

-- a lane that nobody has used
abbrev pub free_lane : ℕ → ℕ → LaneState
free_lane tx_seat rx_seat =
    record {
      tx_seat = tx_seat;
      rx_seat = rx_seat;
      tx = Absent;
      rx = Absent;
      put = 0;
      read = 0;
      queue = [];
      laid = [];
      closes = None;
    }

-- an end's seat, and its field in the state word
abbrev pub seat_of : Side → LaneState → ℕ
seat_of Tx lane = lane.tx_seat
seat_of Rx lane = lane.rx_seat

abbrev pub field_of : Side → LaneState → Field
field_of Tx lane = lane.tx
field_of Rx lane = lane.rx

abbrev pub with_field : Side → Field → LaneState → LaneState
with_field Tx field lane = record lane { tx = field }
with_field Rx field lane = record lane { rx = field }

-- tests on a field
abbrev pub is_up : Field → Bool
is_up Absent = false
is_up Up = true
is_up Gone = false

abbrev pub is_absent : Field → Bool
is_absent Absent = true
is_absent Up = false
is_absent Gone = false

-- both ends are absent
abbrev pub is_free : LaneState → Bool
is_free lane = is_absent lane.tx && is_absent lane.rx

-- no end is up, and the lane isn't free
abbrev pub is_down : LaneState → Bool
is_down lane = not (is_up lane.tx) && not (is_up lane.rx) && not (is_free lane)

-- the end closes the lane
abbrev pub is_side : Side → Option Side → Bool
is_side Tx (Some Tx) = true
is_side Rx (Some Rx) = true
is_side Tx (Some Rx) = false
is_side Rx (Some Tx) = false
is_side Tx None = false
is_side Rx None = false

-- no place, or no number, is there
abbrev pub is_empty : {A : Type 0} → List A → Bool
is_empty [] = true
is_empty (first ∷ rest) = false

-- how many places in front are emptied: their packets were taken or drained, and they aren't released
abbrev pub unreleased : List (Option Packet) → ℕ
unreleased [] = 0
unreleased (None ∷ places) = suc (unreleased places)
unreleased (Some packet ∷ places) = 0

-- the packet in the first filled place
abbrev pub first_filled : List (Option Packet) → Option Packet
first_filled [] = None
first_filled (None ∷ places) = first_filled places
first_filled (Some packet ∷ places) = Some packet

-- the queue once the packet in its first filled place is taken
abbrev pub next_emptied : List (Option Packet) → List (Option Packet)
next_emptied [] = []
next_emptied (None ∷ places) = None ∷ next_emptied places
next_emptied (Some packet ∷ places) = None ∷ places

-- the queue once this many of its places in front are emptied
abbrev pub emptied_by : ℕ → List (Option Packet) → List (Option Packet)
emptied_by zero queue = queue
emptied_by (suc n) [] = []
emptied_by (suc n) (place ∷ places) = None ∷ emptied_by n places

-- how often the packet of this number is laid, and whether it is
abbrev pub laid_count : ℕ → LaneState → ℕ
laid_count number lane = count_by (λ other. other == number) lane.laid

abbrev pub lays : ℕ → LaneState → Bool
lays number lane = list_any (λ other. other == number) lane.laid

-- the end has laid a packet, or has taken one and not released its place
abbrev pub is_half_done : Side → LaneState → Bool
is_half_done Tx lane = not (is_empty lane.laid)
is_half_done Rx lane = nat_lt 0 (unreleased lane.queue)

-- an end comes up, unless it is up or the lane is down
abbrev pub can_attach : Side → LaneState → Bool
can_attach side lane = not (is_up (field_of side lane)) && not (is_down lane)

abbrev pub attached : Side → LaneState → LaneState
attached side lane = with_field side Up lane

-- an end that is up, with nothing half done, goes
abbrev pub can_detach : Side → LaneState → Bool
can_detach side lane = is_up (field_of side lane) && not (is_half_done side lane)

-- the end that goes closes the lane where it is down then
abbrev pub closed_by : Side → Bool → LaneState → LaneState
closed_by side true lane = record lane { closes = Some side }
closed_by side false lane = lane

abbrev pub detached : Side → LaneState → LaneState
detached side lane = closed_by side (is_down (with_field side Gone lane)) (with_field side Gone lane)

-- the closing end frees the lane once its queue is empty and nothing is laid
abbrev pub can_reset : Side → LaneState → Bool
can_reset side lane = is_side side lane.closes && is_empty lane.queue && is_empty lane.laid

abbrev pub was_reset : LaneState → LaneState
was_reset lane = record lane { tx = Absent; rx = Absent; closes = None }

-- a packet is there to take, and fewer than so many places are emptied
abbrev pub has_next : ℕ → LaneState → Bool
has_next most lane = nat_lt (unreleased lane.queue) most && is_some (first_filled lane.queue)

-- the receiver, which is up, takes the first packet, and its place stays empty until it is released
abbrev pub can_take : LaneState → Bool
can_take lane = is_up lane.rx && has_next most_unreleased lane

abbrev pub taken : LaneState → LaneState
taken lane = record lane { queue = next_emptied lane.queue }

-- the receiver gives all emptied places back
abbrev pub can_release : LaneState → Bool
can_release lane = is_up lane.rx && nat_lt 0 (unreleased lane.queue)

abbrev pub released : LaneState → LaneState
released lane =
    record lane { queue = drop (unreleased lane.queue) lane.queue; read = lane.read + unreleased lane.queue }

-- the closing end takes and gives back in the same way, one packet after another
abbrev pub can_drain : Side → LaneState → Bool
can_drain side lane = is_side side lane.closes && has_next 1 lane

abbrev pub can_drain_release : Side → LaneState → Bool
can_drain_release side lane = is_side side lane.closes && nat_lt 0 (unreleased lane.queue)

-- the transmitter, which is up, lays one packet more where there is room
abbrev pub can_lay : LaneState → Bool
can_lay lane =
    is_up lane.tx && nat_lt (length lane.laid) most_laid && nat_lt (lane.put + length lane.laid - lane.read) most_queued

abbrev pub with_laid : ℕ → LaneState → LaneState
with_laid number lane = record lane { laid = lane.laid ++ number ∷ [] }

-- something is laid, which the transmitter may publish, or may take back from the last one on
abbrev pub has_laid : LaneState → Bool
has_laid lane = not (is_empty lane.laid)

-- packets that were laid join the end of the queue, and the rest stays laid; or all of them join it
abbrev pub published_some : List Packet → List ℕ → LaneState → LaneState
published_some packets rest lane =
    record lane { queue = lane.queue ++ map Some packets; put = lane.put + length packets; laid = rest }

abbrev pub published : List Packet → LaneState → LaneState
published packets lane = published_some packets [] lane

abbrev pub taken_back : LaneState → LaneState
taken_back lane = record lane { laid = take (length lane.laid - 1) lane.laid }
