-- How links come to a worker's slab and go from it, and which links stand there.
use Rattle.std.specs.FinSet as finset
use Rattle.std.specs.Prelude.{Bool, List, None, Option, Some, cond, length, slice_index_or, ℕ, ◌≡◌, ◌≤◌}
use Rattle.sn_app.specs.Calls.{HasLink, row_of_link}
use Rattle.sn_app.specs.Desk.{Queue, no_queue, with_queue}
use Rattle.sn_app.specs.Hands.{frees_each}
use Rattle.sn_app.specs.Reader.{Meaning, change, look, pure}
use Rattle.sn_app.specs.Rows.{keeps_counts, ◌>>◌}
use Rattle.sn_app.specs.World.{rows_in}
use Rattle.sn_link.specs.Link.{Line}
use Rattle.sn_names.specs.LinkOrder.{link_cmp}
use Rattle.sn_names.specs.declared.link.LinkSpec.{LinkSpec}

-- a link of a row comes: nothing was sent on it
unfoldable pub opens : ℕ → Meaning Unit
opens row = change (with_queue row (Some no_queue))

-- a link goes: its packets become free, the front first, and the counts that it had before are kept
unfoldable pub closing : ℕ → Option Queue → Meaning Unit
closing row None = pure tt
closing row (Some queue) = change (with_queue row None) >> frees_each queue.packets >> keeps_counts row queue.counts

unfoldable pub closes : ℕ → Meaning Unit
closes row = look (λ d. closing row (d.queues row))

-- the link at a key, if there is one
abbrev pub slot_at : List (Option Line) → ℕ → Option Line
slot_at slots key = slice_index_or slots key None

-- how many links are there: one, or none
abbrev pub one_if : Bool → ℕ
one_if there = cond there 1 0

-- each link of the roster stands in the slab exactly once where it is among these, and else not at all
pub record HasLines (roster : List LinkSpec) (slots : List (Option Line)) (links : finset.FinSet link_cmp) : Type 0 where
  pub lines : (link : LinkSpec) → HasLink roster link
      → rows_in (row_of_link roster link) slots ≡ one_if (finset.contains links link)

-- each link that stood stands yet, at its key
pub record KeepsLinks (old new : List (Option Line)) : Type 0 where
  pub kept : (key : ℕ) (line : Line) → slot_at old key ≡ Some line → slot_at new key ≡ Some line

-- the row of what is at a key
abbrev pub row_there : Option Line → Option ℕ
row_there None = None
row_there (Some line) = Some line.row

-- at each key stands a link of the same row, or none as before
pub record SameRows (old new : List (Option Line)) : Type 0 where
  pub rows : (key : ℕ) → row_there (slot_at new key) ≡ row_there (slot_at old key)

-- each link is of a row of the roster, and no two are of one row
pub record FitsRoster (roster : List LinkSpec) (slots : List (Option Line)) : Type 0 where
  pub named : (row : ℕ) → length roster ≤ row → rows_in row slots ≡ 0
  pub once : (row : ℕ) → rows_in row slots ≤ 1
