-- Seats taken apart: what each of them was, kind by kind.
use Rattle.std.specs.Prelude.{ℕ, ◌≡◌, ◌++◌, ◌∷◌, List, [], Option, Some, map, slice_get}
use Rattle.sn_app.specs.Counts.{CounterRows}
use Rattle.sn_journal.specs.JournalState.{JournalState}
use Rattle.sn_journal.specs.declared.entry.Entry.{Entry}
use Rattle.sn_seat.specs.Tellings.{TellsAll, seat_ends, seat_group, seat_hold}
use Rattle.sn_seat.specs.Trays.{no_captures, seat_tray}
use Rattle.sn_seat.specs.declared.seat.Seat.{Seat}
use Rattle.sn_sharing.specs.LeftEnds.{lists}
use Rattle.sn_sharing.specs.declared.apart.Apart.{Apart}

-- the entries of a seat, its counters, and its files by their rows
abbrev pub past_of : Seat → List Entry
past_of seat = (seat_tray no_captures seat).log.past

abbrev pub counters_of : Seat → CounterRows
counters_of seat = (seat_tray no_captures seat).counters

abbrev pub files_of : Seat → List (Option (List ℕ))
files_of seat = (seat_tray no_captures seat).files

-- the entries of journals
abbrev pub entries_in : JournalState → List Entry
entries_in journal = journal.entries

abbrev pub pasts : List JournalState → List (List Entry)
pasts journals = map entries_in journals

-- the parts are those of these seats, in their order, and each seat's entries tell all of it
pub record AreParts (seats : List Seat) (apart : Apart) : Type 0 where
  pub journals : pasts apart.journals.items ≡ map past_of seats
  pub counters : apart.counters.items ≡ map counters_of seats
  pub files : lists apart.files.items ≡ map files_of seats
  pub holds : apart.holds.items ≡ map seat_hold seats
  pub ends : lists apart.ends.items ≡ map seat_ends seats
  pub groups : apart.groups.items ≡ map seat_group seats
  pub told : (k : ℕ) (seat : Seat) → slice_get seats k ≡ Some seat → TellsAll (past_of seat) seat

-- the parts of one seat are added
pub record Adds (old : Apart) (seat : Seat) (new : Apart) : Type 0 where
  pub journals : pasts new.journals.items ≡ pasts old.journals.items ++ past_of seat ∷ []
  pub counters : new.counters.items ≡ old.counters.items ++ counters_of seat ∷ []
  pub files : lists new.files.items ≡ lists old.files.items ++ files_of seat ∷ []
  pub holds : new.holds.items ≡ old.holds.items ++ seat_hold seat ∷ []
  pub ends : lists new.ends.items ≡ lists old.ends.items ++ seat_ends seat ∷ []
  pub groups : new.groups.items ≡ old.groups.items ++ seat_group seat ∷ []
  pub told : TellsAll (past_of seat) seat
