-- Where a packet is found: what stands with an owner, and the tests for one number.
use Rattle.std.specs.Prelude.{ℕ, Bool, false, ◌==◌, Option, Some, None, is_some, List, [], slice_get}
use Rattle.std.specs.List.{list_any}
use Rattle.sn_core.specs.declared.events.Owner.{Owner}
use Rattle.sn_core.specs.declared.parts.Packet.{Packet}
use Rattle.sn_core.specs.declared.parts.Cell.{Cell}
use Rattle.sn_core.specs.declared.parts.Cell.TheVariants.{Empty, Busy, Full}
use Rattle.sn_core.specs.Lane.{LaneState}
use Rattle.sn_core.specs.Seat.{SeatState, held_packets, turn_of}
use Rattle.sn_core.specs.Core.{Core, cell_packets, queued_packets}

-- what stands with an owner: a full cell's packet, the packets of a lane's queue, or a seat's list
abbrev pub found_at : {X : Type 0} → (X → List Packet) → Option X → List Packet
found_at packets None = []
found_at packets (Some x) = packets x

abbrev pub owned_packets : Core → Owner → List Packet
owned_packets core (Owner.Cell c) = found_at cell_packets (slice_get core.cells c)
owned_packets core (Owner.Lane i) = found_at queued_packets (slice_get core.lanes i)
owned_packets core (Owner.Seat s) = found_at held_packets (slice_get core.seats s)

-- whether a cell, a place, a lane or a seat has the packet of this number
abbrev pub cell_has : ℕ → Cell → Bool
cell_has number Empty = false
cell_has number (Busy seat) = false
cell_has number (Full packet) = packet.number == number

abbrev pub place_has : ℕ → Option Packet → Bool
place_has number None = false
place_has number (Some packet) = packet.number == number

abbrev pub lane_has : ℕ → LaneState → Bool
lane_has number lane = list_any (place_has number) lane.queue

abbrev pub seat_has : ℕ → SeatState → Bool
seat_has number seat = is_some (turn_of number seat)
