-- The rule of a group's table: cells, their words and slots, and what all seats know of them.
use Rattle.std.specs.Prelude.{◌≡◌, ◌<◌, ◌≤◌, ℕ, ◌+◌, Option, List, [], map, length, sum_by}
use mathlib.Core.Option.{Option as Maybe, some, none}
use lib.ListN.{get_elem?}
use Rattle.atomic_table.specs.Table.{State}
use Rattle.sn_core.specs.declared.parts.Packet.{Packet}
use Rattle.sn_core.specs.Seat.{most_claimed}
use Rattle.sn_packet.specs.Packet.{PacketState}
use Rattle.sn_group.specs.declared.view.View.{View}
use Rattle.sn_group.specs.Cells.{Cell, filled, IsSmall, word_of, home_of, cell_weight, weigh, claims_of, times}
use Rattle.sn_group.specs.Views.{nobody, logs_in, all_gained, all_given}

-- what lies in a slot, none where a seat has the slot
abbrev pub Home : Type 0
Home = Maybe (Option PacketState)

-- the cells that a seat has claimed, none where it isn't there
abbrev pub cells_in : Maybe View → List ℕ
cells_in none = []
cells_in (some v) = v.cells

-- what stands in the cells, as slots and seats show it
pub record Pool (opened : List Packet) (cells : List Cell) (homes : List Home) (views : List View) : Type 0 where
  pub lie : homes ≡ map home_of cells
  pub small : (i : ℕ) (packet : PacketState) → get_elem? cells i ≡ some (filled packet) → IsSmall packet
  -- a cell is busy with a seat exactly where the seat has claimed it, once then
  pub agree : (i seat : ℕ) → times i (cells_in (get_elem? views seat)) ≡ claims_of seat (get_elem? cells i)
  pub few : (id : ℕ) (v : View) → get_elem? views id ≡ some v → length v.cells ≤ most_claimed
  -- what was there at the opening and all that was given is what was got and what is there
  pub balance : (h : ℕ → ℕ → ℕ) → weigh h opened + sum_by (λ v. all_given h (logs_in v)) views
      ≡ sum_by (λ v. all_gained h (logs_in v)) views + sum_by (cell_weight h) cells

-- a seat that has a part of the group has its own number, and knows how many freelists the group is cut into
pub record IsSeated (groups id : ℕ) (v : View) : Type 0 where
  pub numbered : v.number ≡ id
  pub grouped : v.groups ≡ groups

-- how the seats have parted the group
pub record Parted (seats groups : ℕ) (views : List View) : Type 0 where
  pub seated : (id : ℕ) (v : View) → get_elem? views id ≡ some v → 0 < v.parts → IsSeated groups id v
  pub spent : (id : ℕ) (v : View) → get_elem? views id ≡ some v → v.parts ≡ 0 → v ≡ nobody
  pub total : sum_by (λ v. v.parts) views ≡ seats
  -- a seat with parts for others, which weren't joined into it, was made last
  pub dealing : (id : ℕ) (v : View) → get_elem? views id ≡ some v → 1 < v.parts → v.joined ≡ [] → length views ≡ id + 1

-- the words show the cells
pub record Rule (opened : List Packet) (seats groups : ℕ) (s : State (Option PacketState) View) : Type 0 where
  pub cells : List Cell
  pub shows : s.words ≡ map word_of cells
  pub pool : Pool opened cells s.homes s.views
  pub parted : Parted seats groups s.views
