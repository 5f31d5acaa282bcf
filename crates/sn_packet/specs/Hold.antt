-- A hold, as contracts see it: a map from places to packets, the stack of free places, and the room.
use Rattle.std.specs.Prelude.{◌≡◌, ℕ, ◌-◌, ◌^◌, ◌<◌, ◌≤◌, ◌==◌, min, is_some, if◌then◌else◌, nat_le, List, map, count_by, sum_by, Option, Some, None, IsSome, unwrap_or, slice_index_or, slice_set}
use Rattle.slab.specs.Slab.{Slab, get, slab_len}
use Rattle.sn_packet.specs.Packet.{PacketState, with_bytes, no_packet}

-- the packet or nothing at each place from 0 on, the free places with the one freed last at the end, the place of
-- the next packet, and how many more packets can be laid
pub record Held : Type 0 where
  pub slots : List (Option PacketState)
  pub free : List ℕ
  pub next : ℕ
  pub room : ℕ

-- the packet at a place, if one is held there
abbrev pub at_of : Held → ℕ → Option PacketState
at_of hold place = slice_index_or hold.slots place None

-- the packet at a place where one is held
abbrev pub there : Held → ℕ → PacketState
there hold place = unwrap_or (at_of hold place) no_packet

-- how often a place stands among these
abbrev pub among : List ℕ → ℕ → ℕ
among places place = count_by (λ other. other == place) places

-- the packet at a place, if one is held there and isn't free
abbrev pub used_of : Held → ℕ → Option PacketState
used_of hold place = if among hold.free place == 0 then at_of hold place else None

-- the free packets, the one freed last at the end
abbrev pub frees_of : Held → List PacketState
frees_of hold = map (there hold) hold.free

-- a map with another value at one place
abbrev pub put_at : {A : Type 0} → ℕ → A → (ℕ → A) → ℕ → A
put_at place value values other = if other == place then value else values other

-- the hold after the bytes of the packet at a place are written
abbrev pub rewritten : ℕ → List ℕ → Held → Held
rewritten place bytes hold = record hold { slots = slice_set hold.slots place (Some (with_bytes bytes (there hold place))) }

-- where a used packet's bytes are written, it alone changes among the used packets
abbrev pub WritesUsed : ℕ → List ℕ → Held → Held → Type 0
WritesUsed place bytes old new =
    IsSome (used_of old place) → used_of new ≡ put_at place (Some (with_bytes bytes (there old place))) (used_of old)

-- where a used packet's bytes are written, the free packets stay
abbrev pub LeavesFrees : ℕ → Held → Held → Type 0
LeavesFrees place old new = IsSome (used_of old place) → frees_of new ≡ frees_of old

-- what a slot weighs, by the number and turn of its packet
abbrev pub slot_weight : (ℕ → ℕ → ℕ) → Option PacketState → ℕ
slot_weight f None = 0
slot_weight f (Some packet) = f packet.number packet.turn

-- the sum of what the held packets weigh, the free ones too
abbrev pub weight : (ℕ → ℕ → ℕ) → Held → ℕ
weight f hold = sum_by (slot_weight f) hold.slots

-- the weight stays, whatever function of number and turn weighs
abbrev pub KeepsWeight : Held → Held → Type 0
KeepsWeight old new = (f : ℕ → ℕ → ℕ) → weight f new ≡ weight f old

-- how many more packets can be laid, where so many fit into the slots and so many places into the freelist: none
-- where a slot's place might not fit into 32 bits
abbrev pub room_of : ℕ → ℕ → ℕ → ℕ
room_of capacity freelist held = if nat_le capacity (2 ^ 32) then min capacity freelist - held else 0

-- 1 where there is something, else 0
abbrev pub one_if : {A : Type 0} → Option A → ℕ
one_if slot = if is_some slot then 1 else 0

-- what a hold keeps: a free place is held and is free once, the freelist has room for each held place, and each
-- held place fits into 32 bits
pub record IsHold (cells : Slab PacketState) (free : List ℕ) (freelist : ℕ) : Type 0 where
  pub once : (place : ℕ) → among free place ≤ one_if (get cells place)
  pub fits : slab_len cells ≤ freelist
  pub small : (place : ℕ) → IsSome (get cells place) → place < 2 ^ 32
