-- What the steps of a command do, each as a part of the script that it follows.
use Rattle.std.specs.Prelude.{ℕ, Bool, ◌≡◌, ◌⊎◌, List, [], Ok, Err, Option, None, ◌<◌, get_or, length, map, take}
use Rattle.sn_outside.specs.Views.{FilesView}
use Rattle.sn_outside.specs.declared.fault.FileFault.{FileFault}
use Rattle.sn_outside.specs.declared.fault.FileFault.TheVariants.{TooLong}
use Rattle.sn_scenario.specs.ScenarioText.{scenario_of}
use Rattle.sn_scenario.specs.Scenarios.{ScenarioForm}
use Rattle.sn_scenario.specs.declared.fault.ScenarioFault.{ScenarioFault}
use Rattle.sn_run.specs.Captures.{IsCapture}
use Rattle.sn_run.specs.Courses.{EndsWritten, Follows, Stops}
use Rattle.sn_run.specs.Reported.{RunReport, WrittenFile}
use Rattle.sn_run.specs.Scripts.{Script, reads, opens, runs, captures_script, command_script, most_captures, most_scenario}
use Rattle.sn_run.specs.Seen.{ReadGave, Written, WriteRefused}
use Rattle.sn_run.specs.Texts.{Said, SaysOrStarves, said_of, saying, starving}
use Rattle.sn_run.specs.Ways.{refused, no_scenario, unwritten}
use Rattle.sn_run.specs.declared.answer.Refusal.{Refusal}
use Rattle.sn_run.specs.declared.command.Command.{Command}
use Rattle.sn_run.specs.declared.outcome.Outcome.{Outcome}

-- a text spells no scenario, and this is said, or memory lacked
abbrev pub RefusesText : List ℕ → Said → Type 0
RefusesText text said =
    ((fault : ScenarioFault) × (scenario_of text ≡ Err fault) × SaysOrStarves said (said_of (refused (no_scenario fault))))
    ⊎ (said ≡ starving)

-- one read gave a text of this scenario
pub record GaveText (tells : Bool) (old new : FilesView) (file : List ℕ) (form : ScenarioForm) : Type 0 where
  pub text : List ℕ
  pub gave : ReadGave tells old new file most_scenario text
  pub is : scenario_of text ≡ Ok form

-- the file of a command ended it, whichever command it was
abbrev pub TextEnds : Bool → FilesView → FilesView → List ℕ → Said → Type 0
TextEnds tells old new file said = (command : Command) → Follows tells (command_script file command) old new None said

-- one read gave this capture
pub record GaveCapture (tells : Bool) (old new : FilesView) (name : List ℕ) (limit : ℕ) (bytes : List ℕ) : Type 0 where
  pub gave : ReadGave tells old new name limit bytes
  pub is : IsCapture bytes

-- a capture ended a command, whatever would have come next
abbrev pub CaptureEnds : Bool → FilesView → FilesView → List ℕ → ℕ → Said → Type 0
CaptureEnds tells old new name limit said =
    (next : List ℕ → Script) → Follows tells (reads name limit (λ bytes. opens name bytes (next bytes))) old new None said

-- what follows once these captures were read follows on their reads
abbrev pub LeadOn : Bool → FilesView → FilesView → List (List ℕ) → List (List ℕ) → Type 0
LeadOn tells old new names captures =
    (form : ScenarioForm) (last : FilesView) (report : Option RunReport) (said : Said)
    → Follows tells (runs form captures) new last report said → Follows tells
    (captures_script form names most_captures []) old last report said

-- one of the captures ended a command
abbrev pub CapturesEnd : Bool → FilesView → FilesView → List (List ℕ) → Said → Type 0
CapturesEnd tells old new names said =
    (form : ScenarioForm) → Follows tells (captures_script form names most_captures []) old new None said

-- the files of a run were written, all or up to the first that was refused, or memory lacked before
abbrev pub EndsRun : Bool → FilesView → FilesView → List WrittenFile → Outcome → RunReport → Option RunReport → Said → Type 0
EndsRun tells old new files ran told report said =
    EndsWritten tells old new files ran told report said ⊎ Stops old new report said starving

-- the write of the file at this place was refused with this fault
pub record WriteStops (tells : Bool) (old new : FilesView) (files : List WrittenFile) (at : ℕ) (fault : FileFault) : Type 0 where
  pub file : WrittenFile
  pub within : at < length files
  pub here : file ≡ get_or files at file
  pub between : FilesView
  pub written : Written tells old between (take at files)
  pub refused : WriteRefused tells between new file.name fault
  pub never_long : fault ≡ TooLong → ⊥

-- what answers say, and what is to be said where each of these files was not written
abbrev pub prepared : List Refusal → List Said
prepared answers = map (λ r. saying r.status r.text.items) answers

abbrev pub unwritten_all : List WrittenFile → List Said
unwritten_all files = map (λ file. said_of (unwritten file.name)) files

-- the answers are those that these files were not written, in their order
abbrev pub PreparedFor : List Refusal → List WrittenFile → Type 0
PreparedFor answers files = prepared answers ≡ unwritten_all files
