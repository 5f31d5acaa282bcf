-- The files that are written once a run came to its end.
use Rattle.std.specs.Prelude.{ℕ, ◌+◌, List, [], ◌∷◌, ◌++◌, Option, Some, None, codes}
use Rattle.std.specs.Fmt.{decimal}
use Rattle.sn_journal.specs.JournalText.{journal_text}
use Rattle.sn_journal.specs.declared.entry.Entry.{Entry}
use Rattle.sn_scenario.specs.Scenarios.{ScenarioForm}
use Rattle.sn_run.specs.Reported.{RunReport, WrittenFile}
use Rattle.sn_run.specs.Texts.{text_line}

-- the line of a worker's number, and behind it the lines of its journal
abbrev pub worker_text : ℕ → List Entry → List ℕ
worker_text worker entries = text_line (codes "worker ") (decimal worker) ++ journal_text entries

-- the text of journals, those of the workers from this one on
abbrev pub journals_text : ℕ → List (List Entry) → List ℕ
journals_text worker [] = []
journals_text worker (entries ∷ more) = worker_text worker entries ++ journals_text (worker + 1) more

-- the journal's file, where one is named
abbrev pub journal_files : Option (List ℕ) → List (List Entry) → List WrittenFile
journal_files None journals = []
journal_files (Some name) journals = record { name = name; bytes = journals_text 0 journals } ∷ []

-- the files of the report in their order, and then the journal's, where the scenario names one
abbrev pub written_files : ScenarioForm → RunReport → List WrittenFile
written_files form report = report.files ++ journal_files form.journal report.journals
