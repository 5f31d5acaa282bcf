-- The core's state of a group, as it is read off words and views, and off how far a seat's transfer has come.
use Rattle.std.specs.Prelude.{◌≡◌, ℕ, suc, ◌==◌, if◌then◌else◌, Option, Some, None, option_map, List, [], ◌∷◌, map, slice_get}
use lib.ListN.{get_elem?}
use Rattle.atomic_table.specs.Table.{State}
use Rattle.sn_core.specs.declared.parts.Cell.{Cell}
use Rattle.sn_core.specs.declared.parts.Cell.TheVariants.{Empty, Busy, Full}
use Rattle.sn_core.specs.declared.parts.Phase.{Phase}
use Rattle.sn_core.specs.declared.parts.Phase.TheVariants.{Taking as Takes, Giving as Gives, GivenIn as HasGiven}
use Rattle.sn_core.specs.declared.events.Event.{Event}
use Rattle.sn_core.specs.Seat.{SeatState, Transfer, claims_of}
use Rattle.sn_core.specs.Core.{Core, after}
use Rattle.sn_packet.specs.Packet.{PacketState}
use Rattle.sn_group.specs.declared.view.View.{View}
use Rattle.sn_group.specs.declared.answers.Pending.{Pending}
use Rattle.sn_group.specs.declared.answers.Pending.TheVariants.{Nothing, Taking, TakenOut, Giving, GivenIn}
use Rattle.sn_group.specs.Cells.{number_in, turn_in, times}
use Rattle.sn_group.specs.Rule.{cells_in}

-- a group's words, slots and views
abbrev pub GroupTable : Type 0
GroupTable = State (Option PacketState) View

-- the number of the first seat that has claimed a cell
abbrev pub claimer : ℕ → List View → ℕ
claimer cell [] = 0
claimer cell (v ∷ views) = if times cell v.cells == 0 then claimer cell views else v.number

-- a cell, as it is read off its word and the views
abbrev pub read_word : List View → ℕ → ℕ → Cell
read_word views cell word =
    if word == 0 then Empty
    else (if word == 1 then Busy (claimer cell views) else Full (record { number = number_in word; turn = turn_in word }))

-- the same for a row of cells, of which the first has this number
abbrev pub read_from : List View → ℕ → List ℕ → List Cell
read_from views cell [] = []
read_from views cell (word ∷ words) = read_word views cell word ∷ read_from views (suc cell) words

abbrev pub read_cells : GroupTable → List Cell
read_cells s = read_from s.views 0 s.words

-- how far a seat's transfer has come, as the core says it
abbrev pub phase_of : Pending → Option Phase
phase_of Nothing = None
phase_of Taking = Some (Takes 0)
phase_of TakenOut = Some (Takes 1)
phase_of Giving = Some Gives
phase_of GivenIn = Some HasGiven

-- a seat's transfer, as it is read off its view, how far it has come, and the number of its packet
abbrev pub read_transfer : Pending → ℕ → View → Option Transfer
read_transfer pending number v =
    option_map (λ phase. record { phase = phase; claims = map (λ cell. record { cell = cell; packet = number }) v.cells })
    (phase_of pending)

-- the core's cells are those that are read, and the core's seat of this number has this transfer pending
pub record Reads (s : GroupTable) (id : ℕ) (transfer : Option Transfer) (seat : SeatState) (core : Core) : Type 0 where
  pub cells : core.cells ≡ read_cells s
  pub there : slice_get core.seats id ≡ Some seat
  pub pending : seat.pending ≡ transfer

-- the event is enabled, and leads to a core that is read off this table
abbrev pub LeadsTo : Event → GroupTable → ℕ → Option Transfer → Core → Type 0
LeadsTo event s id transfer core =
    (after' : Core) × (after core event ≡ Some after') × (seat : SeatState) × Reads s id transfer seat after'

-- the cells that a seat of the core has claimed, none where it isn't there
abbrev pub claimed_cells : Option SeatState → List ℕ
claimed_cells None = []
claimed_cells (Some seat) = map (λ claim. claim.cell) (claims_of seat)

-- the core's cells are those that are read, and each of its seats has claimed the cells of the view of its number
pub record ReadsAll (s : GroupTable) (core : Core) : Type 0 where
  pub cells : core.cells ≡ read_cells s
  pub claims : (id : ℕ) → claimed_cells (slice_get core.seats id) ≡ cells_in (get_elem? s.views id)
