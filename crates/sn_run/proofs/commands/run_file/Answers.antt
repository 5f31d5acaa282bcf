use Rattle.std.proofs.Common.{sym, ◌∙◌}
use Rattle.sn_run.specs.declared.command.Command.TheVariants.{Run}
use Rattle.sn_run.proofs.ScriptSteps.{goes_on, not_now, now_runs, refuses_so, with_script}
use Rattle.sn_run.proofs.commands.run_file.Goals as goal

pub returns-then-not-runs_now : goal.returns-then-not-runs_now
returns-then-not-runs_now g c =
    goes_on _ _ _ _ _ Run _ _ _ c.in-Ok.ensures.ok
    (with_script _ _ _ _ _ _ _ (not_now _ c.in-Ok.scenario (sym c.runs_now.ensures ∙ c.if-not-runs_now.true))
    (refuses_so _ _ _ _ _ _ c.refusal_of.ensures c.refused-then-not-runs_now.ensures.says
    c.refused-then-not-runs_now.ensures.report))

pub returns : goal.returns
returns g c =
    goes_on _ _ _ _ _ Run _ _ _ c.in-Ok.ensures.ok
    (with_script _ _ _ _ _ _ _
    (now_runs _ c.in-Ok.scenario (sym c.runs_now.ensures ∙ c.if-not-runs_now.false)) c.run_read.ensures)
