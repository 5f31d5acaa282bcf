-- The lines so far, and what is left behind them.
use Rattle.std.proofs.Common.{length, true, ◌++◌, ◌≡◌}
use Rattle.std.specs.List.{list_all}
use Rattle.sn_journal.specs.JournalText.{fits, lines_text}
use Rattle.sn_journal.proofs.outlining.outline.Given as goal

abbrev pub invariant-loop-rest : goal.invariant-loop-rest
invariant-loop-rest l = record {
  read : l.fn.text ≡ lines_text l.lines.items ++ l.rest;
  fit : list_all fits l.lines.items ≡ true;
}

abbrev pub decreases-loop-rest : goal.decreases-loop-rest
decreases-loop-rest l = length l.rest
