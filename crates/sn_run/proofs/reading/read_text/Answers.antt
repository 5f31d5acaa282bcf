use Rattle.std.proofs.Common.{subst}
use Rattle.sn_run.specs.Steps.{RefusesText}
use Rattle.sn_run.specs.Texts.{saying}
use Rattle.sn_run.proofs.ScriptSteps.{by_err, text_ends, unread_ends}
use Rattle.sn_run.proofs.reading.read_text.Goals as goal

pub returns-in-Err-clause-err : goal.returns-in-Err-clause-err
returns-in-Err-clause-err g c command = unread_ends _ _ _ _ _ _ _ _ c.in-Err.ensures.err c.unread.ensures

pub returns-clause-err : goal.returns-clause-err
returns-clause-err g c =
    by_err c.parse_text.result _ _
    (λ refusal refuses. text_ends _ _ _ _ _ _ c.in-Ok.ensures.ok
    (subst (λ t. RefusesText t (saying refusal.status refusal.text.items)) c.deref.ensures.value refuses))
    c.parse_text.ensures.err
