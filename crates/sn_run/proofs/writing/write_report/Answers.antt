use Rattle.std.proofs.Common.{ap, ◌∙◌}
use Rattle.sn_run.proofs.WrittenFiles.{report_lacking, report_unwritten}
use Rattle.sn_run.proofs.writing.write_report.Goals as goal

pub returns-in-Err-default-Failed : goal.returns-in-Err-default-Failed
returns-in-Err-default-Failed g c =
    report_unwritten _ _ _ _ _ _ _ _ _ _ _
    (c.deref-2.ensures.value ∙ ap (λ r. r.files) c.report.view_is)
    c.in-Err-default-Failed.ensures.err
    _ _ _
    c.in-Err-default-Failed.field-0-1-is
    (c.deref.ensures.value ∙ ap (λ r. r.files) c.report.view_is)
    c.in-Ok-unwritten_answers.ensures
    c.swap_remove.ensures.value
    c.answer_with-in-Err-default-Failed.ensures.says
    c.answer_with-in-Err-default-Failed.ensures.report

pub returns-in-Err-default-OutOfMemory : goal.returns-in-Err-default-OutOfMemory
returns-in-Err-default-OutOfMemory g c =
    report_lacking _ _ _ _ _ _ _ _ _ _ _
    (c.deref-2.ensures.value ∙ ap (λ r. r.files) c.report.view_is)
    c.in-Err-default-OutOfMemory.ensures.err
    c.in-Err-default-OutOfMemory.field-0-1-is
    c.starved-in-Err-default-OutOfMemory.ensures.says
    c.starved-in-Err-default-OutOfMemory.ensures.report
