-- What the steps of a ledger leave by which packets come and go.
use Rattle.std.specs.Prelude.{ℕ, ◌≡◌, ◌+◌, ◌<◌, ◌≤◌, List, [], ◌∷◌, ◌++◌, length, Option, Some, None}
use Rattle.sn_journal.specs.declared.entry.Entry.{Entry}
use Rattle.sn_journal.specs.declared.entry.Entry.TheVariants.{Drain, Dry, Got, Put, Reset, Take}
use Rattle.sn_packet.specs.Hold.{Held, frees_of, put_at, used_of}
use Rattle.sn_packet.specs.Packet.{PacketState, highest_turn, most_bytes, most_packets}
use Rattle.sn_app.specs.Desk.{End, closing_end, out_end}

-- a packet was put at a position
abbrev pub put_entry : ℕ → ℕ → PacketState → Entry
put_entry number at packet = Put number at packet.number (packet.turn + 1) packet.bytes

-- a packet came to a place where there was none, and is used there; the free ones stay
pub record Came (packet : PacketState) (old : Held) (place : ℕ) (new : Held) : Type 0 where
  pub fresh : used_of old place ≡ None
  pub used : used_of new ≡ put_at place (Some packet) (used_of old)
  pub frees : frees_of new ≡ frees_of old
  pub number : packet.number < most_packets
  pub turn : packet.turn ≤ highest_turn
  pub bytes : length packet.bytes ≤ most_bytes

-- a packet was taken from an interlink, at some position
pub record TakeStep (number : ℕ) (entries : List Entry) (old : Held) (place : ℕ) (later : List Entry) (new : Held) : Type 0 where
  pub at : ℕ
  pub packet : PacketState
  pub noted : later ≡ entries ++ Take number at packet.number packet.turn packet.bytes ∷ []
  pub came : Came packet old place new

-- a packet was drained, at some position, or nothing was left and the interlink is free
pub record DrainedOne (number : ℕ) (entries : List Entry) (old : Held) (place : ℕ) (later : List Entry) (new : Held) : Type
    0 where
  pub at : ℕ
  pub packet : PacketState
  pub noted : later ≡ entries ++ Drain number at packet.number packet.turn ∷ []
  pub came : Came packet old place new

abbrev pub DrainStep : ℕ → List Entry → Held → Option ℕ → List Entry → Held → Type 0
DrainStep number entries old None later new = (later ≡ entries ++ Reset number ∷ []) × (new ≡ old)
DrainStep number entries old (Some place) later new = DrainedOne number entries old place later new

abbrev pub drained_end : Option ℕ → End
drained_end None = out_end
drained_end (Some place) = closing_end 0

-- a packet was claimed from the group, or there was none
pub record ClaimedOne (entries : List Entry) (old : Held) (place : ℕ) (later : List Entry) (new : Held) : Type 0 where
  pub packet : PacketState
  pub noted : later ≡ entries ++ Got packet.number packet.turn ∷ []
  pub came : Came packet old place new

abbrev pub ClaimStep : List Entry → Held → Option ℕ → List Entry → Held → Type 0
ClaimStep entries old None later new = (later ≡ entries ++ Dry ∷ []) × (new ≡ old)
ClaimStep entries old (Some place) later new = ClaimedOne entries old place later new
