-- What one call saw of its files, and what reads and writes do.
use Rattle.std.specs.Prelude.{ℕ, Bool, true, ◌<◌, ◌≤◌, ◌≡◌, List, [], ◌∷◌, ◌++◌, length, map, Result, Ok, Err, Some, IsSomeAnd}
use Rattle.std.specs.FinMap.{get}
use Rattle.sn_outside.specs.Contents.{Contents}
use Rattle.sn_outside.specs.Counts.{FaultCounted}
use Rattle.sn_outside.specs.Told.{with_call}
use Rattle.sn_outside.specs.Views.{FilesView}
use Rattle.sn_outside.specs.declared.fault.FileFault.{FileFault}
use Rattle.sn_outside.specs.declared.fault.FileFault.TheVariants.{Failed, TooLong, OutOfMemory}
use Rattle.sn_outside.specs.declared.files.CallKind.TheVariants.{Read, Write}
use Rattle.sn_outside.specs.declared.files.FileCall.{FileCall}
use Rattle.sn_run.specs.Reported.{WrittenFile, with_files}

-- whether the files tell what they hold, and what is seen of them before and after the call
pub record Seen : Type 0 where
  pub tells : Bool
  pub old : FilesView
  pub new : FilesView

abbrev pub seen : Bool → FilesView → FilesView → Seen
seen tells old new = record { tells = tells; old = old; new = new }

-- a read of a file, and a write, with what it answered
abbrev pub a_read : List ℕ → Result Unit FileFault → FileCall
a_read name answer = record { kind = Read; name = name; answer = answer }

abbrev pub a_write : List ℕ → Result Unit FileFault → FileCall
a_write name answer = record { kind = Write; name = name; answer = answer }

-- the file holds these bytes, at most so many
pub record Holds (m : Contents) (name : List ℕ) (limit : ℕ) (bytes : List ℕ) : Type 0 where
  pub held : get m name ≡ Some bytes
  pub short : length bytes ≤ limit

-- the file holds more bytes
pub record IsOver (m : Contents) (name : List ℕ) (limit : ℕ) : Type 0 where
  pub over : IsSomeAnd (get m name) (λ bytes. limit < length bytes)

-- the file held these bytes where the files tell, and they are at most so many
pub record Found (tells : Bool) (m : Contents) (name : List ℕ) (limit : ℕ) (bytes : List ℕ) : Type 0 where
  pub told : tells ≡ true → get m name ≡ Some bytes
  pub short : length bytes ≤ limit

-- a read gave these bytes, and did nothing else
pub record ReadGave (tells : Bool) (old new : FilesView) (name : List ℕ) (limit : ℕ) (bytes : List ℕ) : Type 0 where
  pub found : Found tells old.contents name limit bytes
  pub kept : tells ≡ true → new.contents ≡ old.contents
  pub called : tells ≡ true → new.calls ≡ old.calls ++ a_read name (Ok tt) ∷ []
  pub still : new.faults ≡ old.faults

-- a read was refused with this fault, and did nothing else
pub record ReadRefused (tells : Bool) (old new : FilesView) (name : List ℕ) (limit : ℕ) (fault : FileFault) : Type 0 where
  pub kept : tells ≡ true → new.contents ≡ old.contents
  pub called : tells ≡ true → new.calls ≡ with_call old.calls Read name (Err fault)
  pub long : tells ≡ true → fault ≡ TooLong → IsSomeAnd (get old.contents name) (λ bytes. limit < length bytes)
  pub later : old.faults ≤ new.faults
  pub failed : fault ≡ Failed → FaultCounted old.faults new.faults
  pub still : (fault ≡ Failed → ⊥) → new.faults ≡ old.faults

-- the call that writes a file
abbrev pub write_call : WrittenFile → FileCall
write_call file = a_write file.name (Ok tt)

-- these files were written, one after another, and nothing else was done
pub record Written (tells : Bool) (old new : FilesView) (files : List WrittenFile) : Type 0 where
  pub contents : tells ≡ true → new.contents ≡ with_files old.contents files
  pub called : tells ≡ true → new.calls ≡ old.calls ++ map write_call files
  pub still : new.faults ≡ old.faults

-- a write was refused with this fault: the file may hold anything, and all others are as before
pub record WriteRefused (tells : Bool) (old new : FilesView) (name : List ℕ) (fault : FileFault) : Type 0 where
  pub others : tells ≡ true → (other : List ℕ) → (other ≡ name → ⊥) → get new.contents other ≡ get old.contents other
  pub kept : tells ≡ true → fault ≡ OutOfMemory → new.contents ≡ old.contents
  pub called : tells ≡ true → new.calls ≡ with_call old.calls Write name (Err fault)
  pub later : old.faults ≤ new.faults
  pub failed : fault ≡ Failed → FaultCounted old.faults new.faults
  pub still : (fault ≡ Failed → ⊥) → new.faults ≡ old.faults

-- files were written up to this one, whose write was refused with this fault
pub record WrittenUpTo (tells : Bool) (old new : FilesView) (files : List WrittenFile) (file : WrittenFile)
    (fault : FileFault) : Type 0 where
  pub front : List WrittenFile
  pub behind : List WrittenFile
  pub files_are : files ≡ front ++ file ∷ behind
  pub between : FilesView
  pub written : Written tells old between front
  pub refused : WriteRefused tells between new file.name fault
