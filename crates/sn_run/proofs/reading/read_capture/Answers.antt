use Rattle.std.proofs.Common.{subst}
use Rattle.sn_run.specs.Texts.{SaysOrStarves, said_of, saying}
use Rattle.sn_run.specs.Ways.{no_capture, refused}
use Rattle.sn_run.proofs.ScriptSteps.{capture_ends, capture_lacks, unread_ends}
use Rattle.sn_run.proofs.reading.read_capture.Goals as goal

pub returns-in-Err-clause-err : goal.returns-in-Err-clause-err
returns-in-Err-clause-err g c next = unread_ends _ _ _ _ _ _ _ _ c.in-Err.ensures.err c.unread.ensures

pub returns-in_default-clause-err : goal.returns-in_default-clause-err
returns-in_default-clause-err g c = capture_lacks _ _ _ _ _ _ _ c.in-Ok.ensures.ok c.out_of_memory.ensures

pub returns-in-Ok-copy-clause-err : goal.returns-in-Ok-copy-clause-err
returns-in-Ok-copy-clause-err g c =
    let refusal = c.refusal_of.result in
    capture_ends _ _ _ _ _ _ c.in-Err-open.fault _ c.in-Ok.ensures.ok c.in-Err-open.ensures.cause
    (subst (λ n. SaysOrStarves (saying refusal.status refusal.text.items)
    (said_of (refused (no_capture n c.in-Err-open.fault)))) c.in-Ok-copy.ensures c.refusal_of.ensures)
