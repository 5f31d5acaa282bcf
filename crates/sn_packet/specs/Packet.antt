-- A packet, as contracts see it.
use Rattle.std.specs.Prelude.{ℕ, ◌-◌, ◌^◌, ◌==◌, Bool, List, []}

-- the most packets of a pool, so that a number is below it
abbrev pub most_packets : ℕ
most_packets = 16384

-- the most bytes of a packet
abbrev pub most_bytes : ℕ
most_bytes = 10240

-- the highest turn: a packet at this turn is worn, and moves no more
abbrev pub highest_turn : ℕ
highest_turn = 2 ^ 48 - 1

-- a packet: its number in the pool, how often it was handed over, and its bytes
pub record PacketState : Type 0 where
  pub number : ℕ
  pub turn : ℕ
  pub bytes : List ℕ

-- the packet is at the highest turn
abbrev pub is_worn : PacketState → Bool
is_worn packet = packet.turn == highest_turn

-- the packet with these bytes, the same packet at the same turn
abbrev pub with_bytes : List ℕ → PacketState → PacketState
with_bytes bytes packet = record packet { bytes = bytes }

-- what stands for a packet where there is none
abbrev pub no_packet : PacketState
no_packet = record { number = 0; turn = 0; bytes = [] }
