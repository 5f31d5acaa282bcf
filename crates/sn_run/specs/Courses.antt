-- How a call follows a script.
use Rattle.std.specs.Prelude.{ℕ, Bool, ◌≡◌, ◌⊎◌, List, Option, Some, None}
use Rattle.sn_outside.specs.Views.{FilesView}
use Rattle.sn_outside.specs.declared.fault.FileFault.{FileFault}
use Rattle.sn_outside.specs.declared.fault.FileFault.TheVariants.{Failed, TooLong, OutOfMemory}
use Rattle.sn_pcap.specs.declared.fault.PcapFault.{PcapFault}
use Rattle.sn_pcap.specs.Faults.{HasFault}
use Rattle.sn_run.specs.Captures.{IsCapture}
use Rattle.sn_run.specs.Commands.{IsCommand, IsCommandOf}
use Rattle.sn_run.specs.Replay.{IsRun}
use Rattle.sn_run.specs.Reported.{RunReport, WrittenFile}
use Rattle.sn_run.specs.Scripts.{Script, prints, refuses, reads, opens, runs, command_script}
use Rattle.sn_run.specs.Seen.{Seen, ReadGave, ReadRefused, Written, WrittenUpTo}
use Rattle.sn_run.specs.Texts.{Said, SaysOrStarves, said_of, starving, unread_said}
use Rattle.sn_run.specs.Ways.{no_words, refused, finished, done, unwritten, no_capture}
use Rattle.sn_run.specs.Written.{written_files}
use Rattle.sn_run.specs.declared.command.Command.{Command}
use Rattle.sn_run.specs.declared.outcome.Outcome.{Outcome}

-- nothing more is called, there is no report, and this is said or that memory lacked
pub record Stops (old new : FilesView) (report : Option RunReport) (said wanted : Said) : Type 0 where
  pub same : new ≡ old
  pub none : report ≡ None
  pub says : SaysOrStarves said wanted

-- a file was not read, and that ends it
pub record Unread (tells : Bool) (old new : FilesView) (name : List ℕ) (limit : ℕ) (report : Option RunReport)
    (said : Said) : Type 0 where
  pub fault : FileFault
  pub refused : ReadRefused tells old new name limit fault
  pub none : report ≡ None
  pub says : SaysOrStarves said (unread_said name fault)

-- all files of a run were written, and it ended so
pub record Finished (tells : Bool) (old new : FilesView) (files : List WrittenFile) (ran : Outcome) (told : RunReport)
    (report : Option RunReport) (said : Said) : Type 0 where
  pub written : Written tells old new files
  pub is : report ≡ Some told
  pub says : said ≡ said_of (finished ran)

-- what is said where the write of a file was refused
abbrev pub SaysUnwritten : FileFault → List ℕ → RunReport → Option RunReport → Said → Type 0
SaysUnwritten Failed name told report said = (report ≡ Some told) × (said ≡ said_of (unwritten name))
SaysUnwritten TooLong name told report said = ⊥
SaysUnwritten OutOfMemory name told report said = (report ≡ None) × (said ≡ starving)

-- a file of a run was not written, and no later one was tried
pub record Unwritten (tells : Bool) (old new : FilesView) (files : List WrittenFile) (told : RunReport)
    (report : Option RunReport)
    (said : Said) : Type 0 where
  pub file : WrittenFile
  pub fault : FileFault
  pub up_to : WrittenUpTo tells old new files file fault
  pub says : SaysUnwritten fault file.name told report said

-- the files of a run were written, all or up to the first that was refused
abbrev pub EndsWritten : Bool → FilesView → FilesView → List WrittenFile → Outcome → RunReport → Option RunReport → Said → Type 0
EndsWritten tells old new files ran told report said =
    Finished tells old new files ran told report said ⊎ Unwritten tells old new files told report said

-- The steps of the script are made, in its order, up to the first that is refused or for which memory lacks.
unfoldable pub Follows : Bool → Script → FilesView → FilesView → Option RunReport → Said → Type 0
Follows tells (prints text) old new report said = Stops old new report said (record { way = done; text = text })
Follows tells (refuses why) old new report said = Stops old new report said (said_of (refused why))
Follows tells (reads name limit next) old new report said =
    ((bytes : List ℕ) × (between : FilesView) × ReadGave tells old between name limit bytes × Follows tells (next bytes) between
    new report said)
    ⊎ (Unread tells old new name limit report said ⊎ Stops old new report said starving)
Follows tells (opens name bytes next) old new report said =
    (IsCapture bytes × Follows tells next old new report said)
    ⊎ (((fault : PcapFault) × HasFault bytes fault × Stops old new report said (said_of (refused (no_capture name fault))))
    ⊎ Stops old new report said starving)
Follows tells (runs form captures) old new report said =
    ((ran : Outcome)
    × (told : RunReport)
    × IsRun form captures ran told
    × EndsWritten tells old new (written_files form told) ran told report said)
    ⊎ Stops old new report said starving

-- the words are no command, and nothing was called
pub record NoCommand (w : Seen) (words : List (List ℕ)) (report : Option RunReport) (said : Said) : Type 0 where
  pub none : IsCommand words → ⊥
  pub same : w.new ≡ w.old
  pub no_report : report ≡ None
  pub says : said ≡ said_of no_words

-- the words are a command, and its script was followed
pub record Commanded (w : Seen) (words : List (List ℕ)) (report : Option RunReport) (said : Said) : Type 0 where
  pub file : List ℕ
  pub command : Command
  pub asked : IsCommandOf words file command
  pub follows : Follows w.tells (command_script file command) w.old w.new report said

-- the course of a call: what its words, and what the files gave and answered, make of it
abbrev pub Course : Seen → List (List ℕ) → Option RunReport → Said → Type 0
Course w words report said = NoCommand w words report said ⊎ Commanded w words report said
