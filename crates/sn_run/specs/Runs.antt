-- A run, as contracts see it, and what is reported of what its workers leave.
use Rattle.std.specs.Prelude.{◌≡◌, ◌⊎◌, IsTrue, length, replicate}
use Rattle.sn_crew.specs.Crews.{form_in, rounds_in, spent_in}
use Rattle.sn_crew.specs.declared.crew.Crew.{Crew}
use Rattle.sn_crew.specs.declared.leaving.Left.{Left}
use Rattle.sn_journal.specs.declared.slot_state.SlotState.TheVariants.{Running}
use Rattle.sn_sharing.specs.Columns.{pasts}
use Rattle.sn_sharing.specs.LeftEnds.{lists}
use Rattle.sn_run.specs.Replay.{kept_from, started, together}
use Rattle.sn_run.specs.Reported.{RunReport, outcome_of}
use Rattle.sn_run.specs.declared.outcome.Outcome.{Outcome}
use Rattle.sn_run.specs.declared.run.Run.{Run}

-- its crew: the workers, with what they share and their manager
abbrev pub crew_in : Run → Crew
crew_in run = run.crew

-- all rounds of its scenario were made, or a worker is spent
abbrev pub IsOver : Crew → Type 0
IsOver crew = (rounds_in crew ≡ (form_in crew).settings.rounds) ⊎ IsTrue (spent_in crew)

-- Outcome and report tell what workers leave: journals, receipts and counters as they are, the files by their rows from the
-- workers that started them, and the packets that are kept by the workers' numbers. Every slot runs.
pub record AreTold (rest : Left) (ran : Outcome) (report : RunReport) : Type 0 where
  pub journals : report.journals ≡ pasts rest.closed.journals.items
  pub lanes : report.lanes ≡ rest.closed.lanes.items
  pub group_is : report.group ≡ rest.closed.group
  pub kept : report.kept ≡ kept_from 0 (lists rest.closed.kept.items)
  pub counters : report.counters ≡ rest.closed.counters.items
  pub files : report.files
      ≡ started rest.scenario.outputs (together (length rest.scenario.outputs) (lists rest.closed.files.items))
  pub states : report.states ≡ replicate rest.scenario.settings.workers Running
  pub left_is : report.left ≡ rest.left
  pub ended : ran ≡ outcome_of report
