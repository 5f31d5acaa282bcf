-- The cells of a group: what stands in each, and what its word and its slot are then.
use Rattle.std.specs.Prelude.{◌<◌, ◌≤◌, ℕ, ◌+◌, ◌-◌, ◌*◌, ◌/◌, ◌%◌, ◌==◌, if◌then◌else◌, Option, Some, None, List, [], ◌∷◌, count_by, sum_by}
use mathlib.Core.Option.{Option as Maybe, some, none}
use Rattle.sn_core.specs.declared.parts.Packet.{Packet}
use Rattle.sn_packet.specs.Packet.{PacketState, most_packets, highest_turn}

-- a packet's number and turn
abbrev pub named : PacketState → Packet
named packet = record { number = packet.number; turn = packet.turn }

-- its number and turn are within their bounds
pub record IsSmall (packet : PacketState) : Type 0 where
  pub number : packet.number < most_packets
  pub turn : packet.turn ≤ highest_turn

-- what stands in a cell: nothing, the claim of the seat of this number, or a packet
pub data Cell : Type 0 where
  vacant : Cell
  claimed : ℕ → Cell
  filled : PacketState → Cell

-- the word of a cell that is full with a packet of this number and turn
abbrev pub full_word : ℕ → ℕ → ℕ
full_word number turn = 2 + turn * most_packets + number

-- the number and the turn in the word of a full cell
abbrev pub number_in : ℕ → ℕ
number_in word = (word - 2) % most_packets

abbrev pub turn_in : ℕ → ℕ
turn_in word = (word - 2) / most_packets

-- the word of a cell: 0 where it is empty, 1 where it is busy
abbrev pub word_of : Cell → ℕ
word_of vacant = 0
word_of (claimed seat) = 1
word_of (filled packet) = full_word packet.number packet.turn

-- what lies in the slot of a cell, where no seat has it
abbrev pub home_of : Cell → Maybe (Option PacketState)
home_of vacant = some None
home_of (claimed seat) = none
home_of (filled packet) = some (Some packet)

-- the packets that lie in these slots, in order
abbrev pub somes : List (Option PacketState) → List PacketState
somes [] = []
somes (None ∷ slots) = somes slots
somes (Some packet ∷ slots) = packet ∷ somes slots

-- what the packet of a full cell weighs, by a function of number and turn
abbrev pub cell_weight : (ℕ → ℕ → ℕ) → Cell → ℕ
cell_weight h vacant = 0
cell_weight h (claimed seat) = 0
cell_weight h (filled packet) = h packet.number packet.turn

-- the sum of what these packets weigh
abbrev pub weigh : (ℕ → ℕ → ℕ) → List Packet → ℕ
weigh h packets = sum_by (λ packet. h packet.number packet.turn) packets

-- 1 where the cell is there and the seat of this number has claimed it, else 0
abbrev pub claims_of : ℕ → Maybe Cell → ℕ
claims_of seat none = 0
claims_of seat (some vacant) = 0
claims_of seat (some (claimed other)) = if other == seat then 1 else 0
claims_of seat (some (filled packet)) = 0

-- how often a cell stands among these
abbrev pub times : ℕ → List ℕ → ℕ
times cell cells = count_by (λ other. other == cell) cells
