-- What the steps of a ledger at its ends need, and what they leave.
use Rattle.std.specs.Prelude.{ℕ, ◌≡◌, Bool, true, false, if◌then◌else◌, IsTrue, List, [], ◌∷◌, Some, slice_get}
use Rattle.sn_core.specs.declared.events.Side.{Side}
use Rattle.sn_interlink.specs.Course.{is_down}
use Rattle.sn_interlink.specs.Ends.{LaneEnd, LaneId}
use Rattle.sn_interlink.specs.declared.answers.Attached.{Attached}
use Rattle.sn_interlink.specs.declared.answers.Attached.TheVariants as attached
use Rattle.sn_interlink.specs.declared.answers.Detached.{Detached}
use Rattle.sn_interlink.specs.declared.answers.Detached.TheVariants as detached
use Rattle.sn_journal.specs.declared.entry.Entry.{Entry}
use Rattle.sn_journal.specs.declared.entry.Entry.TheVariants.{Attach, Unattached, Room, Seen}
use Rattle.sn_core.specs.declared.events.Side.TheVariants.{Tx, Rx}
use Rattle.sn_app.specs.Desk.{End, closing_end, out_end, set_end, up_end}
use Rattle.sn_app.specs.Words.{is_closer, is_up_in, is_word}
use Rattle.sn_app.specs.declared.end_state.EndState.{EndState}
use Rattle.sn_seat.specs.SeatEnds.{Numbered, Wire, end_in, ends_in, has_wire, is_at, wires}

-- a seat has the end of an interlink on a side
abbrev pub HasEnd : List Numbered → ℕ → Side → Type 0
HasEnd ends number side = IsTrue (has_wire (wires ends) number side)

-- the ends of this number belong to this interlink
abbrev pub Links : List Numbered → ℕ → LaneId → Type 0
Links ends number link = (k : ℕ) (w : Wire) → slice_get (wires ends) k ≡ Some w → w.0 ≡ number → w.2 ≡ link

-- an end stands so on the desk
abbrev pub Stands : List Numbered → ℕ → Side → EndState → Type 0
Stands ends number side state = (ends_in ends number side).state ≡ state

-- something holds of an end
abbrev pub AtEnd : List Numbered → ℕ → Side → (LaneEnd → Type 0) → Type 0
AtEnd ends number side holds = (k : ℕ) (x : Numbered) → slice_get ends k ≡ Some x → is_at number side x ≡ true → holds
    (end_in x.1)

-- a state word is one of an interlink's words, and the end's own field says whether it is up
pub record FoundAs (side : Side) (up : Bool) (word : ℕ) : Type 0 where
  pub word_is : is_word word ≡ true
  pub own : is_up_in side word ≡ up

-- what is noted of a load of the state word, and of an attaching from this word
abbrev pub look_entries : ℕ → ℕ → List Entry
look_entries number word = if is_down word then Unattached number word word ∷ [] else []

abbrev pub attach_entry : ℕ → ℕ → Attached → Entry
attach_entry number seen attached.Up = Attach number seen
attach_entry number seen (attached.Again found) = Unattached number seen found

-- another word was found than the one that was seen
abbrev pub Differs : ℕ → Attached → Type 0
Differs seen attached.Up = Unit {0}
Differs seen (attached.Again found) = found ≡ seen → ⊥

-- the other end was up in the word that was left, or the end closes
abbrev pub LeavesAs : Side → Detached → Type 0
LeavesAs side (detached.Other word) = is_closer side word ≡ false
LeavesAs side (detached.Closer word) = is_closer side word ≡ true

-- the ends after an attaching, and after a detaching
abbrev pub attached_ends : ℕ → Side → Attached → (ℕ → Side → End) → ℕ → Side → End
attached_ends number side attached.Up ends = set_end number side up_end ends
attached_ends number side (attached.Again found) ends = ends

abbrev pub left_end : Detached → End
left_end (detached.Other word) = out_end
left_end (detached.Closer word) = closing_end 0

-- a load of the far word, as the journal names it
abbrev pub far_entry_of : ℕ → Side → ℕ → Entry
far_entry_of number Tx n = Room number n
far_entry_of number Rx n = Seen number n
