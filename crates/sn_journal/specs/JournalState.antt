-- A journal, as contracts see it.
use Rattle.std.specs.Prelude.{List, ℕ}
use Rattle.sn_journal.specs.declared.entry.Entry.{Entry}

-- the entries in the order in which they were added, and how many more can be added
pub record JournalState : Type 0 where
  pub entries : List Entry
  pub room : ℕ
