use Rattle.std.proofs.Common.{ap, ◌∙◌}
use Rattle.sn_run.specs.Texts.{said_of}
use Rattle.sn_run.specs.Ways.{unwritten}
use Rattle.sn_run.proofs.WrittenFiles.{prepared_more}
use Rattle.sn_run.proofs.writing.push_unwritten.Goals as goal

pub loop-output-preserved : goal.loop-output-preserved
loop-output-preserved c =
    prepared_more _ _ _ _ _ c.output-item.result _ c.loop-output-test.true c.output-item.is c.loop-output.invariant
    (c.in_ok-answer_of.ensures ∙ ap (λ n. said_of (unwritten n)) (c.in_ok-name.ensures ∙ ap (λ f. f.name) c.output.view_is))
    c.in_ok-push.ensures.items
