use Rattle.sn_run.proofs.ScriptSteps.{starves}
use Rattle.sn_run.proofs.top.run_command.Goals as goal

pub returns-in_default : goal.returns-in_default
returns-in_default g c = starves _ _ _ _ _ c.starved.ensures.report c.starved.ensures.says
