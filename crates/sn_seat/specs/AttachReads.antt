-- The parts of an attach's row.
use Rattle.std.specs.Prelude.{ℕ, ◌≡◌, ◌∷◌, ◌++◌, Bool, true, false, List, [], Result, Ok, Err}
use Rattle.sn_core.specs.declared.events.Side.{Side}
use Rattle.sn_interlink.specs.declared.answers.Attached.{Attached}
use Rattle.sn_interlink.specs.declared.answers.Attached.TheVariants as attached
use Rattle.sn_journal.specs.declared.entry.Entry.{Entry}
use Rattle.sn_app.specs.Gates.{attach}
use Rattle.sn_app.specs.Reader.{Meaning, read, read_if, ◌>>=◌}
use Rattle.sn_app.specs.Rows.{attach_or_not, attached, gate, is_down_entry, not_down, ◌>>◌}
use Rattle.sn_app.specs.declared.halt.Halt.{Halt}
use Rattle.sn_app.specs.declared.halt.Halt.TheVariants.{Stopped, OutOfMemory}

-- whether an attaching brought the end up
abbrev pub is_come : Attached → Bool
is_come attached.Up = true
is_come (attached.Again found) = false

-- an attach after the state word was loaded, and one where the word wasn't down
abbrev pub row_looked : ℕ → Side → Meaning Bool
row_looked lane side = read_if (is_down_entry lane) >>= not_down lane side

abbrev pub row_try : ℕ → Side → Meaning Bool
row_try lane side = gate attach >> read (attach_or_not lane side) >>= attached lane side

-- one entry was noted, which doesn't say that the interlink is down
pub record NotesOne (lane : ℕ) (past later : List Entry) : Type 0 where
  pub entry : Entry
  pub noted : later ≡ past ++ entry ∷ []
  pub other : is_down_entry lane entry ≡ false

abbrev pub NotesOther : ℕ → List Entry → Result Bool Halt → List Entry → Type 0
NotesOther lane past (Ok up) later = NotesOne lane past later
NotesOther lane past (Err Stopped) later = NotesOne lane past later
NotesOther lane past (Err OutOfMemory) later = Unit {0}
