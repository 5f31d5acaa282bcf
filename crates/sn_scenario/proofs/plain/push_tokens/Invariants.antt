-- What was appended and what is left are all tokens.
use Rattle.std.proofs.Common.{length, ◌++◌, ◌≡◌}
use Rattle.sn_scenario.specs.Cutting.{tokens}
use Rattle.sn_scenario.specs.PlainText.{spaced}
use Rattle.sn_scenario.proofs.plain.push_tokens.Given as goal

abbrev pub invariant-loop-token : goal.invariant-loop-token
invariant-loop-token l = record {
  read : l.into.items ++ spaced (tokens l.rest) ≡ l.fn.into.items ++ spaced (tokens l.fn.text);
}

abbrev pub decreases-loop-token : goal.decreases-loop-token
decreases-loop-token l = length (tokens l.rest)
