use Rattle.std.proofs.Common.{ap, ◌∙◌}
use Rattle.sn_run.proofs.WrittenFiles.{write_stops, written_more}
use Rattle.sn_run.proofs.writing.write_files.Goals as goal

pub returns-in-Err-clause-err : goal.returns-in-Err-clause-err
returns-in-Err-clause-err g c =
    write_stops _ _ _ _ _ _ _ c.loop-at-test.true c.index-outputs-at.is c.loop-at.invariant _ _ _
    (ap (λ f. f.name) c.output.view_is) c.in-Err.ensures.cause c.in-Err.ensures.told c.in-Err.ensures.never_long

pub loop-at-preserved : goal.loop-at-preserved
loop-at-preserved g c =
    written_more _ _ _ _ _ _ _ c.loop-at-test.true c.index-outputs-at.is c.loop-at.invariant _ _ _
    (ap (λ f. f.name) c.output.view_is)
    (c.deref.ensures.value ∙ ap (λ f. f.bytes) c.output.view_is) c.in-Ok.ensures.cause c.in-Ok.ensures.told
