-- What a call means: a reader, from a desk and the entries that are still to be read to a value, the desk after it, and the
-- entries that are left.
use Rattle.std.specs.Prelude.{ℕ, zero, suc, Bool, true, false, if◌then◌else◌, List, [], ◌∷◌, length, Option, Some, None}
use Rattle.sn_journal.specs.declared.entry.Entry.{Entry}
use Rattle.sn_app.specs.Desk.{Desk, Tray, on_tray, after_entry}

-- How a reading ends: with a value; at a Stop entry; or before an entry that may not be read there, or at the end.
pub data Outcome (R : Type 0) : Type 0 where
  done : R → Desk → List Entry → Outcome R
  stopped : Desk → List Entry → Outcome R
  refused : Desk → List Entry → Outcome R

abbrev pub Meaning : Type 0 → Type 0
Meaning R = Desk → List Entry → Outcome R

-- no entry is read
unfoldable pub pure : {R : Type 0} → R → Meaning R
pure x d entries = done x d entries

-- what goes on from an outcome: only a value does
unfoldable pub go_on : {R S : Type 0} → Outcome R → (R → Meaning S) → Outcome S
go_on (done x d entries) k = k x d entries
go_on (stopped d entries) k = stopped d entries
go_on (refused d entries) k = refused d entries

-- one meaning and then another
infixl 10 ◌>>=◌
unfoldable pub ◌>>=◌ : {R S : Type 0} → Meaning R → (R → Meaning S) → Meaning S
(m >>= k) d entries = go_on (m d entries) k

-- one meaning by what stands on the desk
unfoldable pub look : {R : Type 0} → (Desk → Meaning R) → Meaning R
look f d entries = f d d entries

-- the desk changes
unfoldable pub change : (Desk → Desk) → Meaning Unit
change f d entries = done tt (f d) entries

unfoldable pub change_tray : (Tray → Tray) → Meaning Unit
change_tray f d entries = done tt (on_tray f d) entries

-- an entry is read
abbrev pub with_entry : Entry → Desk → Desk
with_entry entry d = on_tray (after_entry entry) d

unfoldable pub reading : {R : Type 0} → Option R → Entry → Desk → List Entry → Outcome R
reading (Some x) entry d entries = done x (with_entry entry d) entries
reading None entry d entries = refused d (entry ∷ entries)

-- the next entry is read, where f says what may be read and what it tells
unfoldable pub read : {R : Type 0} → (Entry → Option R) → Meaning R
read f d [] = refused d []
read f d (entry ∷ entries) = reading (f entry) entry d entries

unfoldable pub reading_if : Bool → Entry → Desk → List Entry → Outcome Bool
reading_if true entry d entries = done true (with_entry entry d) entries
reading_if false entry d entries = done false d (entry ∷ entries)

-- the next entry is read where it is of a kind, else nothing is
unfoldable pub read_if : (Entry → Bool) → Meaning Bool
read_if f d [] = done false d []
read_if f d (entry ∷ entries) = reading_if (f entry) entry d entries

-- a meaning so many times, as long as it says to go on; whether it said so to the end
unfoldable pub times : ℕ → Meaning Bool → Meaning Bool
times zero m = pure true
times (suc n) m = m >>= (λ on. if on then times n m else pure false)

-- a meaning for each of a list, as long as it says to go on; whether it said so to the end
unfoldable pub on_each : {A : Type 0} → List A → (A → Meaning Bool) → Meaning Bool
on_each [] m = pure true
on_each (x ∷ more) m = m x >>= (λ on. if on then on_each more m else pure false)

-- a meaning so many times, each with what the one before made, as long as it says to go on; what the last one made
unfoldable pub stepping : {S : Type 0} → ℕ → (S → Meaning (Bool × S)) → S → Meaning S
stepping zero m s = pure s
stepping (suc n) m s = m s >>= (λ t. if t.0 then stepping n m t.1 else pure t.1)

-- a meaning again and again, at most so many times, as long as it says to go on
unfoldable pub repeated_with : ℕ → Meaning Bool → Meaning Unit
repeated_with zero m d entries = refused d entries
repeated_with (suc n) m d entries = go_on (m d entries) (λ on. if on then repeated_with n m else pure tt)

-- again and again: each time it reads an entry
unfoldable pub repeated : Meaning Bool → Meaning Unit
repeated m d entries = repeated_with (suc (length entries)) m d entries
