use Rattle.std.proofs.Common.{ap, length, refl, ◌∙◌, ◌++◌}
use Rattle.sn_run.proofs.ScriptSteps.{read_on, run_ends, starves}
use Rattle.sn_run.specs.Written.{journal_files}
use Rattle.sn_run.proofs.commands.run_read.Goals as goal

pub run_scenario-requires-clause-captures : goal.run_scenario-requires-clause-captures
run_scenario-requires-clause-captures g c = λ lives outlive. c.in-Ok.ensures.count ∙ ap length c.captures-2.ensures.same

pub returns-in_default : goal.returns-in_default
returns-in_default g c =
    read_on _ _ _ _ _ _ _ _ _ _ c.captures-2.ensures.same refl c.in-Ok.ensures.ok
    (starves _ _ _ _ _ c.starved.ensures.report c.starved.ensures.says)

pub returns-in_default-journal_files : goal.returns-in_default-journal_files
returns-in_default-journal_files g c =
    read_on _ _ _ _ _ _ _ _ _ _ c.captures-2.ensures.same refl c.in-Ok.ensures.ok
    (starves _ _ _ _ _ c.starved-in_default-journal_files.ensures.report c.starved-in_default-journal_files.ensures.says)

pub returns : goal.returns
returns g c =
    read_on _ _ _ _ _ _ _ _ _ _ c.captures-2.ensures.same refl c.in-Ok.ensures.ok
    (run_ends _ _ _ _ _ _ _ _ _ _ c.in-Ok-run_scenario.ensures.run
    (ap (λ j. c.in-Ok-run_scenario.report.files ++ j) (c.deref.ensures.value ∙ c.in-Ok-journal_files.ensures
    ∙ ap (λ n. journal_files n c.in-Ok-run_scenario.report.journals)
    (c.journal.ensures ∙ ap (λ s. s.journal) c.in-Ok-run_scenario.ensures.same)))
    c.write_report.ensures)
