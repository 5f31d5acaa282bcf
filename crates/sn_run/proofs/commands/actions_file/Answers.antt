use Rattle.std.proofs.Common.{ap, arith}
use Rattle.sn_run.specs.declared.command.Command.TheVariants.{Actions}
use Rattle.sn_run.proofs.ScriptSteps.{answered, goes_on, has_worker, lacks_worker, prints_text, refuses_so, starves, with_script}
use Rattle.sn_run.proofs.commands.actions_file.Goals as goal

pub returns-in-Err : goal.returns-in-Err
returns-in-Err g c =
    answered _ _ _ _ _ _ _ (c.in-Err.ensures.err (Actions c.args.worker)) c.refused.ensures.says c.refused.ensures.report

pub returns-then-worker-settings : goal.returns-then-worker-settings
returns-then-worker-settings g c =
    goes_on _ _ _ _ _ (Actions c.args.worker) _ _ _ c.in-Ok.ensures.ok
    (with_script _ _ _ _ _ _ _ (lacks_worker c.args.worker c.in-Ok.scenario
    (omega (arith, c.if-worker-settings.true, ap (λ s. s.workers) c.settings.ensures.same)))
    (refuses_so _ _ _ _ _ _ c.refusal_of.ensures c.refused-then-worker-settings.ensures.says
    c.refused-then-worker-settings.ensures.report))

pub returns-in_default : goal.returns-in_default
returns-in_default g c =
    goes_on _ _ _ _ _ (Actions c.args.worker) _ _ _ c.in-Ok.ensures.ok
    (starves _ _ _ _ _ c.starved.ensures.report c.starved.ensures.says)

pub returns : goal.returns
returns g c =
    goes_on _ _ _ _ _ (Actions c.args.worker) _ _ _ c.in-Ok.ensures.ok
    (with_script _ _ _ _ _ _ _ (has_worker c.args.worker c.in-Ok.scenario
    (omega (arith, c.if-worker-settings.false, ap (λ s. s.workers) c.settings.ensures.same)))
    (prints_text _ _ _ _ _ _ c.done.ensures.report c.done.ensures.says c.in-Ok-plan_text.ensures))
