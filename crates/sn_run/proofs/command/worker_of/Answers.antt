use Rattle.std.proofs.Common.{◌∙◌}
use Rattle.sn_run.proofs.Numbers.{no_worker}
use Rattle.sn_run.proofs.command.worker_of.Goals as goal

pub returns-in-None-clause-none : goal.returns-in-None-clause-none
returns-in-None-clause-none c worker small is = no_worker _ c.in-None.ensures.none worker small (c.as_bytes.ensures.value ∙ is)
