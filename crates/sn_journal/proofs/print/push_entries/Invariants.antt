-- The lines of the entries so far were appended.
use Rattle.std.proofs.Common.{length, map, take, true, ◌++◌, ◌≡◌}
use Rattle.std.specs.List.{list_all}
use Rattle.sn_journal.specs.JournalText.{fits, journal_text, line_of}
use Rattle.sn_journal.proofs.print.push_entries.Given as goal

abbrev pub invariant-loop-entry : goal.invariant-loop-entry
invariant-loop-entry l = record {
  read : l.into.items ≡ l.fn.into.items ++ journal_text (take l.entry-index l.entries);
  before : take (length l.fn.into.items) l.into.items ≡ l.fn.into.items;
  fits : list_all fits (map line_of (take l.entry-index l.entries)) ≡ true;
}
