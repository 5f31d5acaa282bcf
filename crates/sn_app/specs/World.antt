-- The world of an app's call: the tray, the packets by their places, and the links. A desk shows it without places.
use Rattle.std.specs.Prelude.{ℕ, ◌+◌, ◌<◌, ◌≤◌, ◌≡◌, ◌==◌, if◌then◌else◌, List, [], ◌∷◌, length, map, sum_by, Option, Some, None, IsSome, unwrap_or}
use Rattle.sn_link.specs.Link.{Line}
use Rattle.sn_packet.specs.Hold.{among}
use Rattle.sn_packet.specs.Packet.{PacketState, no_packet}
use Rattle.sn_app.specs.Desk.{Desk, Tray, Queue}

-- the packets that are held and not free, by their places
abbrev pub Used : Type 0
Used = ℕ → Option PacketState

-- the packet at a place
abbrev pub packet_at : Used → ℕ → PacketState
packet_at used place = unwrap_or (used place) no_packet

-- what a call of an app sees and changes
pub record World : Type 0 where
  pub tray : Tray
  pub used : Used
  pub slots : List (Option Line)

abbrev pub world : Tray → Used → List (Option Line) → World
world tray used slots = record { tray = tray; used = used; slots = slots }

-- a link's queue as a desk has it
unfoldable pub queue_of : Used → Line → Queue
queue_of used line = record { packets = map (λ entry. packet_at used entry.0) line.queued; counts = line.counts }

-- the queue of the link at a row, or else this
unfoldable pub queue_or : Used → ℕ → Option Line → Option Queue → Option Queue
queue_or used row None other = other
queue_or used row (Some line) other = if line.row == row then Some (queue_of used line) else other

-- the queues by the links' rows
unfoldable pub queue_in : Used → List (Option Line) → ℕ → Option Queue
queue_in used [] row = None
queue_in used (slot ∷ slots) row = queue_or used row slot (queue_in used slots row)

-- the desk that shows a world
unfoldable pub desk_of : World → Desk
desk_of w = record { tray = w.tray; queues = queue_in w.used w.slots }

-- the places of a queue
abbrev pub places_of : List (ℕ × ℕ) → List ℕ
places_of queued = map (λ entry. entry.0) queued

-- how often a place stands in a link, and in all of them
unfoldable pub in_slot : ℕ → Option Line → ℕ
in_slot place None = 0
in_slot place (Some line) = among (places_of line.queued) place

unfoldable pub in_slots : List (Option Line) → ℕ → ℕ
in_slots slots place = sum_by (in_slot place) slots

-- how many links have a row
unfoldable pub has_row : ℕ → Option Line → ℕ
has_row row None = 0
has_row row (Some line) = if line.row == row then 1 else 0

unfoldable pub rows_in : ℕ → List (Option Line) → ℕ
rows_in row slots = sum_by (has_row row) slots

-- how many queued lengths aren't those of their packets
unfoldable pub misfit : Used → ℕ × ℕ → ℕ
misfit used entry = if length (packet_at used entry.0).bytes == entry.1 then 0 else 1

unfoldable pub misfits_of : Used → Option Line → ℕ
misfits_of used None = 0
misfits_of used (Some line) = sum_by (misfit used) line.queued

unfoldable pub misfits : Used → List (Option Line) → ℕ
misfits used slots = sum_by (misfits_of used) slots

-- no place, and the places of two parts together
abbrev pub nowhere : ℕ → ℕ
nowhere place = 0

-- the place of an answer, if there is one
abbrev pub at_answer : Option ℕ → ℕ → ℕ
at_answer None = nowhere
at_answer (Some place) = among (place ∷ [])

infixl 12 ◌⊕◌
abbrev pub ◌⊕◌ : (ℕ → ℕ) → (ℕ → ℕ) → ℕ → ℕ
(f ⊕ g) place = f place + g place

-- A world in which an app holds these places: each place is one app's, or stands once in one link; it is used; the queued
-- lengths are those of the packets; and each row is at most one link's.
pub record IsSound (w : World) (mine : ℕ → ℕ) : Type 0 where
  pub once : (place : ℕ) → mine place + in_slots w.slots place ≤ 1
  pub in_use : (place : ℕ) → 0 < mine place + in_slots w.slots place → IsSome (w.used place)
  pub lengths : misfits w.used w.slots ≡ 0
  pub rows : (row : ℕ) → rows_in row w.slots ≤ 1
