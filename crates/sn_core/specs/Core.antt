-- The core: its state, the state after each event, and after a list of events.
use Rattle.std.specs.Prelude.{◌≡◌, ◌≢◌, ◌<◌, ℕ, ◌+◌, Bool, true, false, not, ◌&&◌, ◌||◌, ◌==◌, option_map, replicate, if◌then◌else◌, Option, Some, None, is_some, is_none, unwrap_or, option_and_then, List, [], ◌∷◌, ◌++◌, map, length, slice_get, slice_set, nat_le}
use Rattle.std.specs.List.{flat_map, list_any, list_all, range_with_len}
use Rattle.sn_core.specs.declared.events.Side.{Side}
use Rattle.sn_core.specs.declared.events.Side.TheVariants.{Tx, Rx}
use Rattle.sn_core.specs.declared.events.Event.{Event}
use Rattle.sn_core.specs.declared.events.Event.TheVariants.{Look, Attach, Detach, Reset, Take, Release, Lay, Publish, TakeBack, DrainTake, DrainRelease, TakeClaim, TakeOut, TakeDone, GiveClaim, GiveIn, GiveDone, Say, Hear, Stop, Restart}
use Rattle.sn_core.specs.declared.events.Stepped.{Stepped}
use Rattle.sn_core.specs.declared.events.Stepped.TheVariants.{Done, NotEnabled}
use Rattle.sn_core.specs.declared.parts.Packet.{Packet}
use Rattle.sn_core.specs.declared.parts.Cell.{Cell}
use Rattle.sn_core.specs.declared.parts.Cell.TheVariants.{Empty, Busy, Full}
use Rattle.sn_core.specs.declared.parts.Claim.{Claim}
use Rattle.sn_core.specs.declared.parts.Phase.TheVariants.{Taking, Giving}
use Rattle.sn_core.specs.Lane.{LaneState, free_lane, seat_of, is_up, field_of, is_side, first_filled, can_attach, attached, can_detach, detached, can_reset, was_reset, can_take, taken, can_release, released, can_drain, can_drain_release, can_lay, lays, with_laid, has_laid, published, taken_back}
use Rattle.sn_core.specs.Seat.{SeatState, idle_seat, held_packets, turn_of, is_fresh, with_packet, with_packets, without_packet, without_packets, handed_over, with_pending, claims_of, has_claimed, can_take_out, taken_out, is_all_out, can_give_in, given_in, is_given_in}

-- the state of the whole core: the cells of the freelist, the lanes and the seats
pub record Core : Type 0 where
  pub cells : List Cell
  pub lanes : List LaneState
  pub seats : List SeatState

-- how many packets there are: as many as cells
abbrev pub pool : Core → ℕ
pool core = length core.cells

-- the packets of cells that are full
abbrev pub cell_packets : Cell → List Packet
cell_packets Empty = []
cell_packets (Busy seat) = []
cell_packets (Full packet) = packet ∷ []

-- the packets of the filled places of a queue
abbrev pub place_packets : Option Packet → List Packet
place_packets None = []
place_packets (Some packet) = packet ∷ []

-- the packets of a lane's queue
abbrev pub queued_packets : LaneState → List Packet
queued_packets lane = flat_map place_packets lane.queue

-- every place where a packet stands: in full cells, in filled places of queues, in seats' lists
abbrev pub standing : Core → List Packet
standing core =
    flat_map cell_packets core.cells ++ (flat_map queued_packets core.lanes ++ flat_map held_packets core.seats)

-- the core with another lane, seat or cell at this number
abbrev pub with_lane : Core → ℕ → LaneState → Core
with_lane core i lane = record { cells = core.cells; lanes = slice_set core.lanes i lane; seats = core.seats }

abbrev pub with_seat : Core → ℕ → SeatState → Core
with_seat core s seat = record { cells = core.cells; lanes = core.lanes; seats = slice_set core.seats s seat }

abbrev pub with_cell : Core → ℕ → Cell → Core
with_cell core c cell = record { cells = slice_set core.cells c cell; lanes = core.lanes; seats = core.seats }

-- the core with all of these cells so
abbrev pub written : List Cell → List ℕ → Cell → List Cell
written cells [] cell = cells
written cells (c ∷ cs) cell = written (slice_set cells c cell) cs cell

abbrev pub with_cells : Core → List ℕ → Cell → Core
with_cells core cs cell = record { cells = written core.cells cs cell; lanes = core.lanes; seats = core.seats }

-- what is read must be there, and the condition must hold
infixl 10 ◌>>=◌
abbrev pub ◌>>=◌ : {A B : Type 0} → Option A → (A → Option B) → Option B
o >>= f = option_and_then f o

abbrev pub when : {A : Type 0} → Bool → A → Option A
when true x = Some x
when false x = None

-- a lane changes alone
abbrev pub lane_step : Core → ℕ → (LaneState → Bool) → (LaneState → LaneState) → Option Core
lane_step core i test change = do
  lane ← slice_get core.lanes i
  when (test lane) (with_lane core i (change lane))

-- a seat changes alone
abbrev pub seat_step : Core → ℕ → (SeatState → Bool) → (SeatState → SeatState) → Option Core
seat_step core s test change = do
  seat ← slice_get core.seats s
  when (test seat) (with_seat core s (change seat))

-- the seat holds the packet, which isn't worn, and no lane has it laid
abbrev pub may_hand_over : Core → ℕ → SeatState → Bool
may_hand_over core number seat = is_fresh (turn_of number seat) && not (list_any (lays number) core.lanes)

-- it may lay the packet at this lane: there is room, and the packet is under no claim
abbrev pub may_lay : Core → ℕ → LaneState → SeatState → Bool
may_lay core number lane seat = can_lay lane && may_hand_over core number seat && not (has_claimed number seat)

-- this end of the lane is the seat's, and is up or closes
abbrev pub has_end : ℕ → Side → LaneState → Bool
has_end s side lane = (seat_of side lane == s) && (is_up (field_of side lane) || is_side side lane.closes)

-- the seat has an end there that is up or closes
abbrev pub is_in_use : ℕ → LaneState → Bool
is_in_use s lane = has_end s Tx lane || has_end s Rx lane

-- what a cell holds
abbrev pub full_packet : Cell → Option Packet
full_packet Empty = None
full_packet (Busy seat) = None
full_packet (Full packet) = Some packet

abbrev pub is_empty_cell : Cell → Bool
is_empty_cell Empty = true
is_empty_cell (Busy seat) = false
is_empty_cell (Full packet) = false

-- the freelist that the cell, the packet or the seat of this number belongs to: one serves all so far
abbrev pub home : Core → ℕ → ℕ
home core number = 0

-- the packets of these cells, if each is full
abbrev pub packets_of : List Cell → List ℕ → Option (List Packet)
packets_of cells [] = Some []
packets_of cells (c ∷ cs) = do
  cell ← slice_get cells c
  packet ← full_packet cell
  packets ← packets_of cells cs
  Some (packet ∷ packets)

-- each of these cells with its packet
abbrev pub paired : List ℕ → List Packet → List Claim
paired [] packets = []
paired (c ∷ cs) [] = []
paired (c ∷ cs) (packet ∷ packets) = record { cell = c; packet = packet.number } ∷ paired cs packets

-- the packet in the first filled place of the lane's queue moves to the seat of that end
abbrev pub take_first : Core → ℕ → Side → (LaneState → Bool) → Option Core
take_first core i side test = do
  lane ← slice_get core.lanes i
  packet ← first_filled lane.queue
  seat ← slice_get core.seats (seat_of side lane)
  when (test lane) (with_seat (with_lane core i (taken lane)) (seat_of side lane) (with_packet packet seat))

-- a packet of the transmitting seat is laid, and stays in its list
abbrev pub lay : Core → ℕ → ℕ → Option Core
lay core i number = do
  lane ← slice_get core.lanes i
  seat ← slice_get core.seats lane.tx_seat
  when (may_lay core number lane seat) (with_lane core i (with_laid number lane))

-- all laid packets move from the seat to the end of the queue, handed over
abbrev pub publish : Core → ℕ → Option Core
publish core i = do
  lane ← slice_get core.lanes i
  seat ← slice_get core.seats lane.tx_seat
  when (has_laid lane) (with_seat (with_lane core i (published (map (handed_over seat) lane.laid) lane)) lane.tx_seat
      (without_packets lane.laid seat))

-- the packets of these full cells, all of the seat's home, move to the seat, which has the cells claimed then
abbrev pub take_claim : Core → ℕ → List ℕ → Option Core
take_claim core s cs = do
  seat ← slice_get core.seats s
  packets ← packets_of core.cells cs
  when (list_all (λ c. home core c == home core s) cs && is_none seat.pending) (with_seat (with_cells core cs (Busy s)) s
      (with_pending (Some (record { phase = Taking 0; claims = paired cs packets })) (with_packets packets seat)))

-- the cells of the taking are empty, and it is done
abbrev pub take_done : Core → ℕ → Option Core
take_done core s = do
  seat ← slice_get core.seats s
  when (is_all_out seat) (with_seat (with_cells core (map (λ claim. claim.cell) (claims_of seat)) Empty) s
      (with_pending None seat))

-- an empty cell, of the packet's home, is claimed for a packet that the seat holds
abbrev pub give_claim : Core → ℕ → ℕ → ℕ → Option Core
give_claim core s c number = do
  seat ← slice_get core.seats s
  cell ← slice_get core.cells c
  when ((home core c == home core number) && (is_empty_cell cell && is_none seat.pending && may_hand_over core number seat))
      (with_seat (with_cell core c (Busy s)) s
      (with_pending (Some (record { phase = Giving; claims = record { cell = c; packet = number } ∷ [] })) seat))

-- a giving has one claim
abbrev pub only : List Claim → Option Claim
only [] = None
only (claim ∷ []) = Some claim
only (claim ∷ other ∷ others) = None

-- the packet of the giving moves from the seat to the cell, handed over
abbrev pub give_done : Core → ℕ → Option Core
give_done core s = do
  seat ← slice_get core.seats s
  claim ← only (claims_of seat)
  when (is_given_in seat) (with_seat (with_cell core claim.cell (Full (handed_over seat claim.packet))) s
      (with_pending None (without_packet claim.packet seat)))

-- a seat may begin again where it has no end in use and nothing pending; nothing moves
abbrev pub restart : Core → ℕ → Option Core
restart core s = do
  seat ← slice_get core.seats s
  when (is_none seat.pending && not (list_any (is_in_use s) core.lanes)) core

-- the state after the event; None where the event isn't enabled, or names what isn't there
abbrev pub after : Core → Event → Option Core
after core Look = Some core
after core (Attach lane side) = lane_step core lane (can_attach side) (attached side)
after core (Detach lane side) = lane_step core lane (can_detach side) (detached side)
after core (Reset lane side) = lane_step core lane (can_reset side) was_reset
after core (Take lane) = take_first core lane Rx can_take
after core (Release lane) = lane_step core lane can_release released
after core (Lay lane packet) = lay core lane packet
after core (Publish lane) = publish core lane
after core (TakeBack lane) = lane_step core lane has_laid taken_back
after core (DrainTake lane side) = take_first core lane side (can_drain side)
after core (DrainRelease lane side) = lane_step core lane (can_drain_release side) released
after core (TakeClaim seat cell) = take_claim core seat (cell ∷ [])
after core (TakeOut seat) = seat_step core seat can_take_out taken_out
after core (TakeDone seat) = take_done core seat
after core (GiveClaim seat cell packet) = give_claim core seat cell packet
after core (GiveIn seat) = seat_step core seat can_give_in given_in
after core (GiveDone seat) = give_done core seat
after core (Say worker n) = seat_step core worker (λ seat. nat_le seat.said n) (λ seat. record seat { said = n })
after core (Hear worker) = seat_step core worker (λ seat. true) (λ seat. record seat { heard = seat.said })
after core (Stop seat) = option_map (λ _. core) (slice_get core.seats seat)
after core (Restart seat) = restart core seat

-- a step is the event where it is done, and else nothing
abbrev pub IsStep : Core → Event → Stepped → Core → Type 0
IsStep old event Done new = after old event ≡ Some new
IsStep old event NotEnabled new = (after old event ≡ None) × (new ≡ old)

-- the state after a whole list of events, of which those that aren't enabled change nothing
abbrev pub next : Core → Event → Core
next core event = unwrap_or (after core event) core

abbrev pub all_after : Core → List Event → Core
all_after core [] = core
all_after core (event ∷ events) = all_after (next core event) events

-- how many of them were done
abbrev pub done_count : Core → List Event → ℕ
done_count core [] = 0
done_count core (event ∷ events) = (if is_some (after core event) then 1 else 0) + done_count (next core event) events

-- the core as it opens: cell i holds packet i at turn 0, lanes are free, and seats hold nothing
abbrev pub opening_cell : ℕ → Cell
opening_cell number = Full (record { number = number; turn = 0 })

abbrev pub opened : ℕ → ℕ → List (ℕ × ℕ) → Core
opened pool seats lanes =
    record {
      cells = map opening_cell (range_with_len 0 pool);
      lanes = map (λ ends. free_lane ends.0 ends.1) lanes;
      seats = replicate seats (idle_seat pool);
    }

-- a lane joins two different seats
abbrev pub IsPairOfSeats : ℕ → ℕ × ℕ → Type 0
IsPairOfSeats seats ends = (ends.0 < seats) × (ends.1 < seats) × (ends.0 ≢ ends.1)
