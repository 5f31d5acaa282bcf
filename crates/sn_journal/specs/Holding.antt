-- Holding: the packets that a worker holds after the entries of its journal, as a list and by counting.
use Rattle.std.specs.Prelude.{Bool, List, [], Option, None, Some, nat_le, sum_by, true, ℕ, ◌&&◌, ◌++◌, ◌==◌, ◌∷◌, ◌≡◌, if◌then◌else◌}
use Rattle.std.specs.List.{list_any}
use Rattle.sn_journal.specs.declared.entry.Entry.{Entry}
use Rattle.sn_journal.specs.HandOvers.{PacketName, given_packet, kept_packet, received_packet, released_packet}

abbrev pub same_packet : PacketName → PacketName → Bool
same_packet x y = x.0 == y.0 && x.1 == y.1

-- the packet stands among these
abbrev pub is_among : PacketName → List PacketName → Bool
is_among x held = list_any (same_packet x) held

-- these without the first that is this packet
abbrev pub without : PacketName → List PacketName → List PacketName
without x [] = []
without x (y ∷ held) = if same_packet x y then held else y ∷ without x held

-- these and, behind them, what was received
abbrev pub with_received : Option PacketName → List PacketName → List PacketName
with_received None held = held
with_received (Some x) held = held ++ x ∷ []

-- these without what was released
abbrev pub without_released : Option PacketName → List PacketName → List PacketName
without_released None held = held
without_released (Some x) held = without x held

-- what is held after one more entry
abbrev pub held_after : List PacketName → Entry → List PacketName
held_after held entry = without_released (released_packet entry) (with_received (received_packet entry) held)

-- what is held after these entries, where some packets were held before them
abbrev pub held_from : List PacketName → List Entry → List PacketName
held_from held [] = held
held_from held (entry ∷ entries) = held_from (held_after held entry) entries

-- Holding: what is held after these entries
abbrev pub holding : List Entry → List PacketName
holding entries = held_from [] entries

-- the packet, if there is one, is held
abbrev pub is_held : Option PacketName → List PacketName → Bool
is_held None held = true
is_held (Some x) held = is_among x held

-- the packet, if there is one, has a turn that was raised
abbrev pub is_raised : Option PacketName → Bool
is_raised None = true
is_raised (Some x) = nat_le 1 x.1

-- where the entry gives a packet it was held, one turn before, and where it names one as kept that one is held
abbrev pub speaks_of_held : List PacketName → Entry → Bool
speaks_of_held held entry =
    is_raised (given_packet entry) && (is_held (released_packet entry) held && is_held (kept_packet entry) held)

-- each of these entries does, where some packets were held before them
abbrev pub all_speak_of_held : List PacketName → List Entry → Bool
all_speak_of_held held [] = true
all_speak_of_held held (entry ∷ entries) = speaks_of_held held entry && all_speak_of_held (held_after held entry) entries

-- each entry of a journal gives and names only packets that are held then
pub record GivesOnlyHeld (entries : List Entry) : Type 0 where
  pub each : all_speak_of_held [] entries ≡ true

-- what a packet weighs, if there is one, by any function of number and turn
abbrev pub weight_of : (ℕ → ℕ → ℕ) → Option PacketName → ℕ
weight_of f None = 0
weight_of f (Some x) = f x.0 x.1

-- what packets weigh together
abbrev pub weight : (ℕ → ℕ → ℕ) → List PacketName → ℕ
weight f held = sum_by (λ x. f x.0 x.1) held

-- the weight that counts one packet
abbrev pub one_at : PacketName → ℕ → ℕ → ℕ
one_at x number turn = if same_packet x (number, turn) then 1 else 0

-- what the received packets weigh together
abbrev pub gains : (ℕ → ℕ → ℕ) → List Entry → ℕ
gains f entries = sum_by (λ entry. weight_of f (received_packet entry)) entries

-- what the given packets weigh together, at the turns at which they were held
abbrev pub losses : (ℕ → ℕ → ℕ) → List Entry → ℕ
losses f entries = sum_by (λ entry. weight_of f (released_packet entry)) entries
