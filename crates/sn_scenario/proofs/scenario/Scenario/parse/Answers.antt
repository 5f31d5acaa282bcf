use Rattle.std.proofs.Common.{ap, sym, ◌∙◌}
use Rattle.sn_scenario.specs.Cutting.{lines_of}
use Rattle.sn_scenario.specs.DraftView.{reading_of}
use Rattle.sn_scenario.specs.ScenarioText.{lines_from}
use Rattle.sn_scenario.proofs.ScenarioBounds.{end_bounded}
use Rattle.sn_scenario.proofs.scenario.Scenario.parse.Goals as goal

pub finish-requires : goal.finish-requires
finish-requires c =
    end_bounded c.in-Ok.number (reading_of c.read_lines.new.draft) c.args.bytes.now (sym (ap (lines_from 1 (lines_of c.args.bytes.now)) c.new-draft.ensures) ∙ c.in-Ok.ensures)
