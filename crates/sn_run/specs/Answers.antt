-- What the top call says of its answer.
use Rattle.std.specs.Prelude.{ℕ, Bool, true, false, ◌-◌, ◌≡◌, ◌≢◌, ◌⊎◌, ◌≤◌, List, [], ◌∷◌, ◌++◌, Ok, Option, Some, None, length}
use Rattle.std.specs.Prelude.{min, unwrap_or}
use Rattle.std.specs.FinMap.{get}
use Rattle.sn_outside.specs.Contents.{Contents}
use Rattle.sn_outside.specs.Counts.{FaultCounted}
use Rattle.sn_outside.specs.declared.fault.FileFault.{FileFault}
use Rattle.sn_outside.specs.declared.fault.FileFault.TheVariants.{Failed, TooLong, OutOfMemory}
use Rattle.sn_scenario.specs.ScenarioText.{scenario_of}
use Rattle.sn_scenario.specs.Scenarios.{ScenarioForm}
use Rattle.sn_run.specs.Captures.{IsCapture}
use Rattle.sn_run.specs.Commands.{IsCommandOf}
use Rattle.sn_run.specs.Now.{runs_now}
use Rattle.sn_run.specs.Courses.{Course}
use Rattle.sn_run.specs.Expectations.{Expected, IsExpected, IsOutside}
use Rattle.sn_run.specs.Printed.{Sunk, TookAll, TookFront}
use Rattle.sn_run.specs.Replay.{IsRun}
use Rattle.sn_run.specs.Reported.{RunReport, WrittenFile, with_files}
use Rattle.sn_run.specs.Scripts.{most_capture, most_captures, most_scenario}
use Rattle.sn_run.specs.Seen.{Seen, Found}
use Rattle.sn_run.specs.Texts.{Said, way_text}
use Rattle.sn_run.specs.Ways.{Way, way_of, no_words, unread, refused, finished, done, unwritten, starved, unprinted}
use Rattle.sn_run.specs.Written.{written_files}
use Rattle.sn_run.specs.declared.command.Command.TheVariants.{Run}
use Rattle.sn_run.specs.declared.outcome.Outcome.{Outcome}
use Rattle.sn_run.specs.declared.status.Ended.{Ended}
use Rattle.sn_run.specs.declared.status.Status.{Status}
use Rattle.sn_run.specs.declared.status.Status.TheVariants.{PrintFault}

-- the answer: what a print fault replaced, else the status
abbrev pub answer_of : Ended → Status
answer_of ended = unwrap_or ended.replaced ended.status

-- the way in which the command ended
abbrev pub ended_by : Ended → Way
ended_by ended = way_of (answer_of ended)

-- the file held this text, which spells this scenario, and the scenario runs so far
pub record HasScenario (w : Seen) (file text : List ℕ) (form : ScenarioForm) : Type 0 where
  pub found : Found w.tells w.old.contents file most_scenario text
  pub is : scenario_of text ≡ Ok form
  pub now : runs_now form ≡ true

-- the files of these names held captures of these bytes, of which each has room behind the ones before it
abbrev pub HasCaptures : Bool → Contents → ℕ → List (List ℕ) → List (List ℕ) → Type 0
HasCaptures tells m room [] [] = Unit {0}
HasCaptures tells m room [] (bytes ∷ captures) = ⊥
HasCaptures tells m room (name ∷ names) [] = ⊥
HasCaptures tells m room (name ∷ names) (bytes ∷ captures) =
    Found tells m name (min room most_capture) bytes
    × IsCapture bytes
    × HasCaptures tells m (room - length bytes) names captures

-- The scenario that this call read was run over the captures that it read, and ended so, with this report.
pub record Ran (w : Seen) (words : List (List ℕ)) (form : ScenarioForm) (ran : Outcome) (report : RunReport) : Type 0 where
  pub file : List ℕ
  pub asked : IsCommandOf words file Run
  pub text : List ℕ
  pub scenario : HasScenario w file text form
  pub captures : List (List ℕ)
  pub held : HasCaptures w.tells w.old.contents most_captures form.captures captures
  pub run : IsRun form captures ran report

-- a command ends so after a run that ended so: all files of the run were written, or one was not
abbrev pub EndsBy : Outcome → Way → Type 0
EndsBy ran (finished outcome) = outcome ≡ ran
EndsBy ran (unwritten name) = Unit {0}
EndsBy ran way = ⊥

-- the report is that of a run of what was read, and the way follows from that run's outcome
pub record Headline (w : Seen) (words : List (List ℕ)) (way : Way) (report : RunReport) : Type 0 where
  pub form : ScenarioForm
  pub ran : Outcome
  pub run : Ran w words form ran report
  pub ends : EndsBy ran way

-- the ways with a report: a run came to its end, or a file of it was not written
abbrev pub has_report : Way → Bool
has_report (finished outcome) = true
has_report (unwritten name) = true
has_report way = false

-- the files before this one were written, it may hold anything, and all others are as before
pub record StopsAt (before after : Contents) (files : List WrittenFile) (name : List ℕ) : Type 0 where
  pub front : List WrittenFile
  pub file : WrittenFile
  pub behind : List WrittenFile
  pub files_are : files ≡ front ++ file ∷ behind
  pub named : name ≡ file.name
  pub others : (other : List ℕ) → (other ≡ name → ⊥) → get after other ≡ get (with_files before front) other

-- what these files leave by the way: all were written, or those up to the one that was not
abbrev pub LeftBy : Contents → Contents → List WrittenFile → Way → Type 0
LeftBy before after files (finished outcome) = after ≡ with_files before files
LeftBy before after files (unwritten name) = StopsAt before after files name
LeftBy before after files way = ⊥

-- with a report: the files of its run were written, all or up to the one that was not
pub record LeavesRun (w : Seen) (words : List (List ℕ)) (way : Way) (report : RunReport) : Type 0 where
  pub form : ScenarioForm
  pub ran : Outcome
  pub run : Ran w words form ran report
  pub left : LeftBy w.old.contents w.new.contents (written_files form report) way

-- where memory lacked for a write: the files of a run before that one were written
pub record LeavesFront (w : Seen) (words : List (List ℕ)) (way : Way) : Type 0 where
  pub lacks : way ≡ starved
  pub form : ScenarioForm
  pub ran : Outcome
  pub report : RunReport
  pub run : Ran w words form ran report
  pub front : List WrittenFile
  pub behind : List WrittenFile
  pub files_are : written_files form report ≡ front ++ behind
  pub left : w.new.contents ≡ with_files w.old.contents front

-- what the files hold afterwards
abbrev pub Leaves : Seen → List (List ℕ) → Option RunReport → Way → Type 0
Leaves w words (Some report) way = LeavesRun w words way report
Leaves w words None way = (w.new.contents ≡ w.old.contents) ⊎ LeavesFront w words way

-- the files' count of faults, by the way in which the command ended: a fault was counted, or the count stands still; for want of
-- memory it may be either
abbrev pub UnreadCounts : ℕ → ℕ → FileFault → Type 0
UnreadCounts before now Failed = FaultCounted before now
UnreadCounts before now TooLong = now ≡ before
UnreadCounts before now OutOfMemory = now ≡ before

abbrev pub FaultsCounted : ℕ → ℕ → Way → Type 0
FaultsCounted before now no_words = now ≡ before
FaultsCounted before now (unread name fault) = UnreadCounts before now fault
FaultsCounted before now (refused why) = now ≡ before
FaultsCounted before now (finished outcome) = now ≡ before
FaultsCounted before now done = now ≡ before
FaultsCounted before now (unwritten name) = FaultCounted before now
FaultsCounted before now starved = before ≤ now
FaultsCounted before now unprinted = now ≡ before

-- a text that the course of the call makes of this way: the way's own text, but where what was asked for is told
pub record IsTextOf (w : Seen) (words : List (List ℕ)) (way : Way) (text : List ℕ) : Type 0 where
  pub report : Option RunReport
  pub course : Course w words report (record { way = way; text = text })
  pub own : (way ≡ done → ⊥) → text ≡ way_text way

-- one text is that of the call's course, and the sink took it, all of it or its front
pub record Answered (w : Seen) (s : Sunk) (words : List (List ℕ)) (ended : Ended) : Type 0 where
  pub text : List ℕ
  pub course : Course w words ended.report (record { way = ended_by ended; text = text })
  pub all : ended.status ≢ PrintFault → TookAll s text
  pub front : ended.status ≡ PrintFault → TookFront s text

-- an answer that tells of no fault of files and of no want of memory is one that words and contents lead to
abbrev pub IsCaused : Seen → List (List ℕ) → Way → Type 0
IsCaused w words way = w.tells ≡ true → IsOutside way ⊎ IsExpected w.old.contents words way

-- the files tell, words and contents lead to this, and no fault of files was counted
pub record IsDue (w : Seen) (words : List (List ℕ)) (said : Said) : Type 0 where
  pub told : w.tells ≡ true
  pub expected : Expected w.old.contents words said
  pub calm : FaultCounted w.old.faults w.new.faults → ⊥
