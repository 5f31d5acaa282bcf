-- What is left is read as the whole text is.
use Rattle.std.proofs.Common.{length, ◌+◌, ◌≡◌, ◌≤◌}
use Rattle.sn_scenario.specs.Cutting.{lines_of}
use Rattle.sn_scenario.specs.DraftView.{reading_of}
use Rattle.sn_scenario.specs.ScenarioText.{lines_from}
use Rattle.sn_scenario.proofs.parse.read_lines.Given as goal

abbrev pub invariant-loop-rest : goal.invariant-loop-rest
invariant-loop-rest l = record {
  read : lines_from 1 (lines_of l.fn.text) (reading_of l.fn.draft) ≡ lines_from l.number (lines_of l.rest) (reading_of l.draft);
  counted : l.number + length l.rest ≤ 1 + length l.fn.text;
}

abbrev pub decreases-loop-rest : goal.decreases-loop-rest
decreases-loop-rest l = length l.rest
