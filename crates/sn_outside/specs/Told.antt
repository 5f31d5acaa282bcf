-- What one call does to an outside that tells what it holds.
use Rattle.std.specs.Prelude.{ℕ, ◌<◌, ◌≡◌, List, [], ◌∷◌, ◌++◌, length, take, drop, Result, Ok, Err, Some, OnOk, IsSomeAnd, MatchResult}
use Rattle.std.specs.FinMap.{get, insert}
use Rattle.sn_outside.specs.Views.{FilesView, SinkView}
use Rattle.sn_outside.specs.declared.fault.FileFault.{FileFault}
use Rattle.sn_outside.specs.declared.fault.FileFault.TheVariants.{Failed, TooLong, OutOfMemory}
use Rattle.sn_outside.specs.declared.fault.SinkFault.{SinkFault}
use Rattle.sn_outside.specs.declared.files.CallKind.{CallKind}
use Rattle.sn_outside.specs.declared.files.CallKind.TheVariants.{Read, Write}
use Rattle.sn_outside.specs.declared.files.FileCall.{FileCall}

-- the calls with one more, which want of memory leaves out
abbrev pub with_call : List FileCall → CallKind → List ℕ → Result Unit FileFault → List FileCall
with_call calls kind name (Ok x) = calls ++ record { kind = kind; name = name; answer = Ok x } ∷ []
with_call calls kind name (Err Failed) = calls ++ record { kind = kind; name = name; answer = Err Failed } ∷ []
with_call calls kind name (Err TooLong) = calls ++ record { kind = kind; name = name; answer = Err TooLong } ∷ []
with_call calls kind name (Err OutOfMemory) = calls

-- no file changed, and it was too long only where it has more bytes than allowed
pub record ToldRead (old new : FilesView) (name : List ℕ) (limit : ℕ) (result : Result Unit FileFault) : Type 0 where
  pub kept : new.contents ≡ old.contents
  pub long : result ≡ Err TooLong → IsSomeAnd (get old.contents name) (λ bytes. limit < length bytes)
  pub call : new.calls ≡ with_call old.calls Read name result

-- what the list has now behind what it had is the file
abbrev pub GainedFile : FilesView → List ℕ → List ℕ → List ℕ → Type 0
GainedFile files name had has = get files.contents name ≡ Some (drop (length had) has)

-- the file holds what was written, all others are as before, and want of memory changes none
pub record ToldWrite (old new : FilesView) (name bytes : List ℕ) (result : Result Unit FileFault) : Type 0 where
  pub written : OnOk result (new.contents ≡ insert old.contents name bytes)
  pub others : (other : List ℕ) → (other ≡ name → ⊥) → get new.contents other ≡ get old.contents other
  pub kept : result ≡ Err OutOfMemory → new.contents ≡ old.contents
  pub call : new.calls ≡ with_call old.calls Write name result

-- the first bytes of the piece were taken, as many as answered, or nothing
abbrev pub ToldTaken : SinkView → SinkView → List ℕ → Result ℕ SinkFault → Type 0
ToldTaken old new piece result = MatchResult result (λ n. new.taken ≡ old.taken ++ take n piece) (λ _. new.taken ≡ old.taken)
