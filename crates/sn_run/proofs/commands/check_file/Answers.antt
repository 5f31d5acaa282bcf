use Rattle.sn_run.specs.declared.command.Command.TheVariants.{Check}
use Rattle.sn_run.proofs.ScriptSteps.{answered, goes_on, prints_text, starves}
use Rattle.sn_run.proofs.commands.check_file.Goals as goal

pub returns-in-Err : goal.returns-in-Err
returns-in-Err g c = answered _ _ _ _ _ _ _ (c.in-Err.ensures.err Check) c.refused.ensures.says c.refused.ensures.report

pub returns-in_default : goal.returns-in_default
returns-in_default g c =
    goes_on _ _ _ _ _ Check _ _ _ c.in-Ok.ensures.ok (starves _ _ _ _ _ c.starved.ensures.report c.starved.ensures.says)

pub returns : goal.returns
returns g c =
    goes_on _ _ _ _ _ Check _ _ _ c.in-Ok.ensures.ok
    (prints_text _ _ _ _ _ _ c.done.ensures.report c.done.ensures.says c.in-Ok-status_text.ensures)
