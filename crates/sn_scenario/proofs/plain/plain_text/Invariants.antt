-- What was written and what is left are the whole text.
use Rattle.std.proofs.Common.{length, ◌++◌, ◌≡◌}
use Rattle.sn_scenario.specs.PlainText.{plain_text}
use Rattle.sn_scenario.proofs.plain.plain_text.Given as goal

abbrev pub invariant-loop-rest : goal.invariant-loop-rest
invariant-loop-rest l = record {
  read : l.plain.items ++ plain_text l.rest ≡ plain_text l.fn.text;
}

abbrev pub decreases-loop-rest : goal.decreases-loop-rest
decreases-loop-rest l = length l.rest
