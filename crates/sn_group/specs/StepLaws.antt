-- What each step on a group is in the core: from words, slots and views that meet the rule, the step leads to a table
-- that meets it, and the event, on the core as it is read before the step, leads to the core as it is read after it.
use Rattle.std.specs.Prelude.{◌≡◌, ◌<◌, ◌≤◌, ◌⊎◌, ℕ, ◌+◌, Option, Some, None, IsTrue, List, [], ◌∷◌, length, slice_get, slice_index, All}
use Rattle.std.specs.List.{flat_map}
use mathlib.Core.Option.{some}
use lib.ListN.{get_elem?}
use Rattle.atomic_table.specs.Table.{stepped, keeps, takes, gives}
use Rattle.sn_core.specs.declared.parts.Packet.{Packet}
use Rattle.sn_core.specs.declared.events.Event.{Event}
use Rattle.sn_core.specs.declared.events.Event.TheVariants.{Look, TakeClaim, TakeOut, TakeDone, GiveClaim, GiveIn, GiveDone}
use Rattle.sn_core.specs.Seat.{SeatState, Transfer, claims_of, most_claimed, highest_turn, turn_of}
use Rattle.sn_core.specs.Core.{Core, cell_packets, may_hand_over}
use Rattle.sn_core.specs.Sound.{ClaimsAgree}
use Rattle.sn_packet.specs.Packet.{PacketState}
use Rattle.sn_group.specs.declared.view.View.{View}
use Rattle.sn_group.specs.declared.answers.Pending.TheVariants.{Taking, TakenOut, Giving, GivenIn}
use Rattle.sn_group.specs.declared.entry.Probe.{Probe}
use Rattle.sn_group.specs.Cells.{IsSmall, full_word, number_in}
use Rattle.sn_group.specs.Views.{probed, took, reserved, let_go, gave, ran_dry, ran_full}
use Rattle.sn_group.specs.Rule.{Rule}
use Rattle.sn_group.specs.Reading.{GroupTable, read_transfer, Reads, LeadsTo, ReadsAll}

-- a scan goes on or ends, and claims nothing
abbrev pub IsLook : View → View → Type 0
IsLook v w = ((probe : Probe) × (w ≡ probed probe v)) ⊎ ((w ≡ ran_dry v) ⊎ ((word : ℕ) × (w ≡ ran_full word v)))

-- what is asked of the core beyond what is read: nothing; that the seat may hand the packet over; that it holds the packet
abbrev pub Always : Core → SeatState → Type 0
Always core seat = Unit {0}

abbrev pub MayHandOver : ℕ → Core → SeatState → Type 0
MayHandOver number core seat = IsTrue (may_hand_over core number seat)

abbrev pub Holds : ℕ → ℕ → Core → SeatState → Type 0
Holds number turn core seat = turn_of number seat ≡ Some turn

-- the table meets the rule, and the seat of this number has this view and a part of the group
pub record Acts (opened : List Packet) (seats groups : ℕ) (s : GroupTable) (id : ℕ) (v : View) : Type 0 where
  pub rule : Rule opened seats groups s
  pub there : get_elem? s.views id ≡ some v
  pub part : 0 < v.parts

module _ (opened : List Packet) (seats groups : ℕ) where
  -- The rule holds after the step, and the event leads from the core that is read before it to the core that is read
  -- after it. Of the acting seat the transfer is read before and then.
  abbrev pub IsEvent : Event → GroupTable → GroupTable → ℕ → Option Transfer → Option Transfer → (Core → SeatState → Type 0)
      → Type 0
  IsEvent event s after id before then Can =
      Rule opened seats groups after
      × ((core : Core) (seat : SeatState) → Reads s id before seat core → Can core seat → LeadsTo event after id then core)

  -- a load, or an exchange that found another word, or a step that ends a scan, leaves what is read
  abbrev pub LookLaw : Type 0
  LookLaw =
      (s : GroupTable) (id word : ℕ) (v w : View) (before : Option Transfer) → Acts opened seats groups s id v → IsLook v w
      → IsEvent Look s (stepped s word (slice_index s.words word) id [] w keeps) id before before Always

  -- a full cell is claimed by an exchange from its word to 1
  abbrev pub TakeClaimLaw : Type 0
  TakeClaimLaw =
      (s : GroupTable) (id cell : ℕ) (v : View) → Acts opened seats groups s id v → v.cells ≡ [] → cell < length s.words
      → 2 ≤ slice_index s.words cell
      → let word = slice_index s.words cell in let w = took cell word v in
      (packet : PacketState)
      × (get_elem? s.homes cell ≡ some (some (Some packet)))
      × (full_word packet.number packet.turn ≡ word)
      × IsEvent (TakeClaim id cell) s (stepped s cell 1 id [] w (takes cell (Some packet))) id
      None (read_transfer Taking (number_in word) w) Always

  -- the packet comes out of its slot, which changes no word and no view
  abbrev pub TakeOutLaw : Type 0
  TakeOutLaw =
      (s : GroupTable) (id cell number : ℕ) (v : View) → Acts opened seats groups s id v → v.cells ≡ cell ∷ []
      → IsEvent (TakeOut id) s s id (read_transfer Taking number v) (read_transfer TakenOut number v) Always

  -- the emptied cell is let go by a store of 0
  abbrev pub TakeDoneLaw : Type 0
  TakeDoneLaw =
      (s : GroupTable) (id cell number : ℕ) (v : View) → Acts opened seats groups s id v → v.cells ≡ cell ∷ []
      → IsEvent (TakeDone id) s (stepped s cell 0 id ((cell, None) ∷ []) (let_go v) gives) id
      (read_transfer TakenOut number v) None Always

  -- an empty cell is claimed by an exchange from 0 to 1, for a packet that the seat may hand over
  abbrev pub GiveClaimLaw : Type 0
  GiveClaimLaw =
      (s : GroupTable) (id cell number : ℕ) (v : View) → Acts opened seats groups s id v → v.cells ≡ []
      → cell < length s.words → slice_index s.words cell ≡ 0
      → let w = reserved cell v in
      (get_elem? s.homes cell ≡ some (some None))
      × IsEvent (GiveClaim id cell number) s (stepped s cell 1 id [] w (takes cell None)) id
      None (read_transfer Giving number w) (MayHandOver number)

  -- the packet goes into its slot, which changes no word and no view
  abbrev pub GiveInLaw : Type 0
  GiveInLaw =
      (s : GroupTable) (id cell number : ℕ) (v : View) → Acts opened seats groups s id v → v.cells ≡ cell ∷ []
      → IsEvent (GiveIn id) s s id (read_transfer Giving number v) (read_transfer GivenIn number v) Always

  -- the filled cell is let go by a store of the packet's word, with the turn one above that at which the seat holds it
  abbrev pub GiveDoneLaw : Type 0
  GiveDoneLaw =
      (s : GroupTable) (id cell turn : ℕ) (packet : PacketState) (v : View) → Acts opened seats groups s id v
      → v.cells ≡ cell ∷ [] → IsSmall packet → packet.turn ≡ turn + 1
      → let word = full_word packet.number packet.turn in
      IsEvent (GiveDone id) s (stepped s cell word id ((cell, Some packet) ∷ []) (gave word v) gives) id
      (read_transfer GivenIn packet.number v) None (Holds packet.number turn)

-- What the core's soundness says of cells alone: a cell is busy with a seat exactly where the seat has claimed it, once
-- then; a seat has claimed one cell at most; and no full cell's packet is past the highest turn.
pub record IsSoundGroup (core : Core) : Type 0 where
  pub agree : ClaimsAgree core
  pub few : (id : ℕ) (seat : SeatState) → slice_get core.seats id ≡ Some seat → length (claims_of seat) ≤ most_claimed
  pub turns : All (λ packet. packet.turn ≤ highest_turn) (flat_map cell_packets core.cells)

-- a core that is read off a table that meets the rule is sound so far
abbrev pub SoundLaw : List Packet → ℕ → ℕ → Type 0
SoundLaw opened seats groups =
    (s : GroupTable) → Rule opened seats groups s → (core : Core) → ReadsAll s core → IsSoundGroup core
