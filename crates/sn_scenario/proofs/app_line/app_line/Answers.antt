use Rattle.std.proofs.Common.{sym, ◌∙◌}
use Rattle.sn_scenario.specs.Cutting.{tokens}
use Rattle.sn_scenario.specs.FileView.{files_form}
use Rattle.sn_scenario.proofs.AppAddition.{app_line_leaves}
use Rattle.sn_scenario.proofs.app_line.app_line.Goals as goal

pub returns : goal.returns
returns c =
    app_line_leaves c.args.journal.now c.args.lanes.now (files_form c.args.files.now) c.args.placed.now (tokens c.args.text.now) _ _ _ _
    (c.take_app.new.placed, files_form c.take_app.new.files) c.take_app.result
    c.in_ok-words.ensures c.in_ok-name.ensures (sym c.has_app.ensures ∙ c.if-has_app.false) c.in_ok-class.ensures c.in_ok-arg.ensures c.take_app.ensures
