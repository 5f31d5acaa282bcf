-- The numbers so far were appended.
use Rattle.std.proofs.Common.{length, take, ◌++◌, ◌≡◌}
use Rattle.sn_journal.specs.JournalText.{spaced}
use Rattle.sn_journal.proofs.print.push_numbers.Given as goal

abbrev pub invariant-loop-n : goal.invariant-loop-n
invariant-loop-n l = record {
  read : l.into.items ≡ l.fn.into.items ++ spaced (take l.n-index l.numbers);
  before : take (length l.fn.into.items) l.into.items ≡ l.fn.into.items;
}
