-- That a call answered as its meaning reads.
use Rattle.std.specs.Prelude.{ℕ, ◌≡◌, ◌++◌, Bool, true, false, ◌&&◌, IsTrue, List, [], ◌∷◌, Option, Result, Ok, Err}
use Rattle.sn_journal.specs.declared.entry.Entry.{Entry}
use Rattle.sn_app.specs.Desk.{Desk, Tray, Queue, is_started}
use Rattle.sn_app.specs.Reader.{Outcome, Meaning, done, stopped, refused}
use Rattle.sn_app.specs.declared.halt.Halt.{Halt}
use Rattle.sn_app.specs.declared.halt.Halt.TheVariants.{Stopped, OutOfMemory}

-- each of these entries may come
abbrev pub all_may : (Entry → Bool) → List Entry → Bool
all_may may [] = true
all_may may (entry ∷ entries) = may entry && all_may may entries

-- what every call keeps, also where memory was refused: what never changes, and which files were started
pub record Stays (a b : Tray) : Type 0 where
  pub constants : b.log.constants ≡ a.log.constants
  pub started : (file : ℕ) → IsTrue (is_started file a) → IsTrue (is_started file b)

-- the call added entries that may come, and the meaning, over these entries and whatever follows them, gives this value
pub record Reads {R : Type 0} (m : Meaning R) (a b : Desk) (x : R) : Type 0 where
  pub entries : List Entry
  pub past : b.tray.log.past ≡ a.tray.log.past ++ entries
  pub only : all_may a.tray.log.constants.may entries ≡ true
  pub gives : (rest : List Entry) → m a (entries ++ rest) ≡ done x b rest

-- a script that ends is refused, a stop line's Stop is stopped
unfoldable pub halted : {R : Type 0} → Bool → Desk → List Entry → Outcome R
halted true d rest = refused d rest
halted false d rest = stopped d rest

-- the call added entries that may come, and the meaning, over these entries, halts behind them
pub record Halts {R : Type 0} (m : Meaning R) (a b : Desk) : Type 0 where
  pub entries : List Entry
  pub past : b.tray.log.past ≡ a.tray.log.past ++ entries
  pub only : all_may a.tray.log.constants.may entries ≡ true
  pub gives : (rest : List Entry) → (IsTrue a.tray.log.constants.scripted → rest ≡ [])
      → m a (entries ++ rest) ≡ halted a.tray.log.constants.scripted b rest

-- where memory was refused nothing is said of the entries
unfoldable pub AnswersCase : {R : Type 0} → Meaning R → Desk → Desk → Result R Halt → Type 0
AnswersCase m a b (Ok x) = Reads m a b x
AnswersCase m a b (Err Stopped) = Halts m a b
AnswersCase m a b (Err OutOfMemory) = Unit {0}

-- the call answered as the meaning reads
pub record Answers {R : Type 0} (m : Meaning R) (a b : Desk) (result : Result R Halt) : Type 0 where
  pub stays : Stays a.tray b.tray
  pub by_case : AnswersCase m a b result

-- a call of a context: it leaves the queues, whatever they are
pub record OnTray {R : Type 0} (m : Meaning R) (t u : Tray) (result : Result R Halt) : Type 0 where
  pub at : (queues : ℕ → Option Queue)
      → Answers m (record { tray = t; queues = queues }) (record { tray = u; queues = queues }) result
