-- What the outside in memory holds.
use Rattle.std.specs.Prelude.{ℕ, ◌+◌, ◌-◌, ◌≡◌, ◌≤◌, ◌⊎◌, min, None, List, length, Contains, Result, Ok, Err}
use Rattle.std.specs.FinMap.{get}
use Rattle.sn_outside.specs.Views.{FilesView, SinkView}
use Rattle.sn_outside.specs.declared.fault.FileFault.{FileFault}
use Rattle.sn_outside.specs.declared.fault.FileFault.TheVariants.{Failed, TooLong, OutOfMemory}

-- files in memory: what is seen of them as of all files, and the numbers of the calls that fail
pub record MemFilesView : Type 0 where
  pub state : FilesView
  pub failing : List ℕ

-- The number of the next call, counted from 1, is one of those that fail.
abbrev pub FailsNext : MemFilesView → Type 0
FailsNext m = Contains m.failing (length m.state.calls + 1)

-- There is no file of this name.
abbrev pub IsMissing : MemFilesView → List ℕ → Type 0
IsMissing m name = get m.state.contents name ≡ None

-- The call fails where this holds, and only there, unless memory runs out.
abbrev pub FailsIf : Type 0 → Result Unit FileFault → Type 0
FailsIf P (Ok x) = P → ⊥
FailsIf P (Err Failed) = P
FailsIf P (Err TooLong) = P → ⊥
FailsIf P (Err OutOfMemory) = Unit {0}

-- a sink in memory: what is seen of it as of all sinks, the most bytes that it takes at once and in all, the number of the next
-- call, and the numbers of the calls that fail
pub record MemSinkView : Type 0 where
  pub state : SinkView
  pub piece : ℕ
  pub room : ℕ
  pub next : ℕ
  pub failing : List ℕ

-- the next call's number is one of those that fail, or the room is full
abbrev pub SinkFailsNext : MemSinkView → Type 0
SinkFailsNext s = Contains s.failing s.next ⊎ (s.room ≤ length s.state.taken)

-- how many of so many bytes the next call takes, where it doesn't fail
abbrev pub takes_next : MemSinkView → ℕ → ℕ
takes_next s n = min (min n s.piece) (s.room - length s.state.taken)
