-- The numbers so far, and what is left behind them.
use Rattle.std.proofs.Common.{List, false, length, option_map, ℕ, ◌++◌, ◌≡◌}
use Rattle.sn_names.specs.Parts.{starts}
use Rattle.sn_journal.specs.Cutting.{is_no_space, numbers_behind}
use Rattle.sn_journal.specs.JournalText.{spaced}
use Rattle.sn_journal.proofs.numbers.read_numbers.Given as goal

abbrev pub invariant-loop-rest : goal.invariant-loop-rest
invariant-loop-rest l = record {
  read : numbers_behind l.fn.text ≡ option_map (λ (ms : List ℕ). l.into.items ++ ms) (numbers_behind l.rest);
  text : l.fn.text ≡ spaced l.into.items ++ l.rest;
  space : starts is_no_space l.rest ≡ false;
}

abbrev pub decreases-loop-rest : goal.decreases-loop-rest
decreases-loop-rest l = length l.rest
