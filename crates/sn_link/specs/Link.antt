-- A link, as contracts see it: a queue of places with five counts.
use Rattle.std.specs.Prelude.{ℕ, nat_lt, if◌then◌else◌, List, [], ◌∷◌, ◌++◌, length, Option, Some, None}
use Rattle.sn_link.specs.declared.counts.LinkCounts.{LinkCounts}
use Rattle.sn_link.specs.Counts.{no_counts, with_sent, with_dropped, with_received}

-- the most packets of a link
abbrev pub most_queued : ℕ
most_queued = 1023

-- the link's row in its roster, the queued places from the front on, each with its packet's length, and the counts
pub record Line : Type 0 where
  pub row : ℕ
  pub queued : List (ℕ × ℕ)
  pub counts : LinkCounts

-- a link of this row that nothing was sent on
abbrev pub new_line : ℕ → Line
new_line row = record { row = row; queued = []; counts = no_counts }

-- the link after the packet at a place was sent: it is the last of the queue, or counted as dropped where that is full
abbrev pub transmitted : ℕ → ℕ → Line → Line
transmitted place len line =
    if nat_lt (length line.queued) most_queued
    then record line { queued = line.queued ++ (place, len) ∷ []; counts = with_sent len line.counts }
    else record line { counts = with_dropped line.counts }

-- what sending hands back: the place, exactly where the queue is full
abbrev pub handed_back : ℕ → Line → Option ℕ
handed_back place line = if nat_lt (length line.queued) most_queued then None else Some place

-- the first place of a queue
abbrev pub first_place : List (ℕ × ℕ) → Option ℕ
first_place [] = None
first_place (first ∷ rest) = Some first.0

-- a link of these places and counts, after its first packet was received
abbrev pub received_as : ℕ → List (ℕ × ℕ) → LinkCounts → Line
received_as row [] counts = record { row = row; queued = []; counts = counts }
received_as row (first ∷ rest) counts = record { row = row; queued = rest; counts = with_received first.1 counts }

-- the link after its first packet was received, if there is one
abbrev pub received : Line → Line
received line = received_as line.row line.queued line.counts

-- the place at the front
abbrev pub front_of : Line → Option ℕ
front_of line = first_place line.queued
