-- A run, as its workers' journals are read again.
use Rattle.std.specs.Prelude.{ℕ, ◌≡◌, ◌+◌, ◌⊎◌, ◌≤◌, IsTrue, fold, List, [], ◌∷◌, ◌++◌, Option, Some, None, length, map}
use Rattle.std.specs.Prelude.{replicate}
use Rattle.std.specs.List.{list_any}
use Rattle.sn_app.specs.Desk.{Desk}
use Rattle.sn_crew.specs.Crews.{is_spent}
use Rattle.sn_crew.specs.Endings.{AreListed, AreReplays, counters_at, entries_at, files_at, left_by}
use Rattle.sn_crew.specs.Stands.{Stand}
use Rattle.sn_journal.specs.HandOvers.{PacketName}
use Rattle.sn_journal.specs.declared.slot_state.SlotState.TheVariants.{Running}
use Rattle.sn_scenario.specs.Scenarios.{ScenarioForm}
use Rattle.sn_sharing.specs.Closings.{AreFifo, AreHeld, AreLogs, IsBalanced}
use Rattle.sn_sharing.specs.Pools.{pool_packets}
use Rattle.sn_run.specs.Reported.{RunReport, WrittenFile, outcome_of}
use Rattle.sn_run.specs.declared.outcome.Outcome.{Outcome}
use Rattle.sn_run.specs.declared.report.Kept.{Kept}

-- the files that were started, of these by their names
abbrev pub started : List (List ℕ) → List (Option (List ℕ)) → List WrittenFile
started [] files = []
started (name ∷ names) [] = []
started (name ∷ names) (None ∷ files) = started names files
started (name ∷ names) (Some bytes ∷ files) = record { name = name; bytes = bytes } ∷ started names files

-- row by row: the file that was started, the first one where both were
abbrev pub first_started : Option (List ℕ) → Option (List ℕ) → Option (List ℕ)
first_started None other = other
first_started (Some bytes) other = Some bytes

-- the same, where there is another
abbrev pub first_of : Option (List ℕ) → Option (Option (List ℕ)) → Option (List ℕ)
first_of file None = file
first_of file (Some other) = first_started file other

abbrev pub over : List (Option (List ℕ)) → List (Option (List ℕ)) → List (Option (List ℕ))
over [] others = []
over (file ∷ files) [] = file ∷ files
over (file ∷ files) (other ∷ others) = first_started file other ∷ over files others

-- the files of all workers together: an output is started by one worker at most
abbrev pub together : ℕ → List (List (Option (List ℕ))) → List (Option (List ℕ))
together rows files = fold over (replicate rows None) files

-- packets that are kept, of the workers from this one on
abbrev pub kept_at : ℕ → PacketName → Kept
kept_at worker name = record { worker = worker; number = name.0; turn = name.1 }

abbrev pub kept_from : ℕ → List (List PacketName) → List Kept
kept_from worker [] = []
kept_from worker (names ∷ more) = map (kept_at worker) names ++ kept_from (worker + 1) more

-- So many rounds were made of a scenario: all, or those up to one in which a worker was spent.
pub record AreRounds (form : ScenarioForm) (rounds : ℕ) (stands : List Stand) : Type 0 where
  pub within : rounds ≤ form.settings.rounds
  pub last : (rounds ≡ form.settings.rounds) ⊎ IsTrue (list_any is_spent stands)

-- Outcome and report are those of a run of this scenario over captures of these bytes. Each worker's journal is read again, from
-- the opening over the run's rounds to its end; counters and files are those that stand there, and each packet that it holds
-- there is listed. The journals are the logs of the receipts, in each interlink what was put came out first in, first out, and
-- the group's receipt has what was given and not got. What was left is that before the closing.
pub record IsRun (form : ScenarioForm) (captures : List (List ℕ)) (ran : Outcome) (report : RunReport) : Type 0 where
  pub rounds : ℕ
  pub stands : List Stand
  pub ends : List Desk
  pub kept_by : List (List PacketName)
  pub workers : length stands ≡ form.settings.workers
  pub last : AreRounds form rounds stands
  pub replays : AreReplays form captures rounds stands ends
  pub journals : report.journals ≡ map entries_at ends
  pub counters : report.counters ≡ map counters_at ends
  pub files : report.files ≡ started form.outputs (together (length form.outputs) (map files_at ends))
  pub states : report.states ≡ replicate form.settings.workers Running
  pub left : report.left ≡ left_by form stands
  pub logs : AreLogs report.journals form.lanes report.lanes report.group
  pub fifo : AreFifo report.lanes
  pub balance : IsBalanced (pool_packets form.settings.pool) report.group
  pub kept : report.kept ≡ kept_from 0 kept_by
  pub all_kept : length kept_by ≡ length ends
  pub listed : AreListed ends kept_by
  pub held : AreHeld report.journals kept_by
  pub ended : ran ≡ outcome_of report
