-- The packets that a run opens with.
use Rattle.std.specs.Prelude.{ℕ, List, map}
use Rattle.std.specs.List.{range_with_len}
use Rattle.sn_core.specs.declared.parts.Packet.{Packet}
use Rattle.sn_group.specs.Seats.{packet_of}

-- the packet of a number at turn 0
abbrev pub first_packet : ℕ → Packet
first_packet number = packet_of number 0

-- the packets of a pool, from number 0 on
abbrev pub pool_packets : ℕ → List Packet
pool_packets pool = map first_packet (range_with_len 0 pool)
