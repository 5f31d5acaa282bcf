-- The calls that a command makes on its files, by the way in which it ends.
use Rattle.std.specs.Prelude.{ℕ, true, ◌≡◌, ◌⊎◌, List, [], ◌∷◌, ◌++◌, Ok, Err, map}
use Rattle.sn_outside.specs.Told.{with_call}
use Rattle.sn_outside.specs.declared.fault.FileFault.{FileFault}
use Rattle.sn_outside.specs.declared.fault.FileFault.TheVariants.{Failed, TooLong, OutOfMemory}
use Rattle.sn_outside.specs.declared.files.CallKind.TheVariants.{Read, Write}
use Rattle.sn_outside.specs.declared.files.FileCall.{FileCall}
use Rattle.sn_pcap.specs.declared.fault.PcapFault.{PcapFault}
use Rattle.sn_pcap.specs.Faults.{HasFault}
use Rattle.sn_run.specs.Captures.{IsCapture}
use Rattle.sn_run.specs.Commands.{IsCommand, IsCommandOf}
use Rattle.sn_run.specs.Replay.{IsRun}
use Rattle.sn_run.specs.Reported.{RunReport, WrittenFile}
use Rattle.sn_run.specs.Scripts.{Script, prints, refuses, reads, opens, runs, command_script}
use Rattle.sn_run.specs.Seen.{Seen, a_read, write_call}
use Rattle.sn_run.specs.Ways.{AreAlike, Way, no_words, unread, refused, finished, done, unwritten, starved, no_capture}
use Rattle.sn_run.specs.Written.{written_files}
use Rattle.sn_run.specs.declared.command.Command.{Command}
use Rattle.sn_run.specs.declared.outcome.Outcome.{Outcome}

-- the way is this one, or memory lacked
abbrev pub IsOrStarved : Way → Way → Type 0
IsOrStarved way wanted = (way ≡ wanted) ⊎ (way ≡ starved)

-- the way is like this one, or memory lacked
abbrev pub IsLikeOrStarved : Way → Way → Type 0
IsLikeOrStarved way wanted = AreAlike way wanted ⊎ (way ≡ starved)

-- the way in which a refused call ends a command
abbrev pub unread_way : List ℕ → FileFault → Way
unread_way name Failed = unread name Failed
unread_way name TooLong = unread name TooLong
unread_way name OutOfMemory = starved

abbrev pub EndsUnwritten : FileFault → List ℕ → Way → Type 0
EndsUnwritten Failed name way = way ≡ unwritten name
EndsUnwritten TooLong name way = ⊥
EndsUnwritten OutOfMemory name way = way ≡ starved

-- the files before this one are written, and its write is refused with this fault, which ends it
pub record AreWritesUpTo (files : List WrittenFile) (calls : List FileCall) (way : Way) : Type 0 where
  pub front : List WrittenFile
  pub file : WrittenFile
  pub behind : List WrittenFile
  pub files_are : files ≡ front ++ file ∷ behind
  pub fault : FileFault
  pub calls_are : calls ≡ with_call (map write_call front) Write file.name (Err fault)
  pub ends : EndsUnwritten fault file.name way

-- the files are written, all or up to the first that is refused
abbrev pub AreWrites : List WrittenFile → Outcome → List FileCall → Way → Type 0
AreWrites files ran calls way = ((calls ≡ map write_call files) × (way ≡ finished ran)) ⊎ AreWritesUpTo files calls way

-- The calls are the script's, in its order, up to the first that is refused or for which memory lacks; those refused for want of
-- memory aren't noted.
unfoldable pub AreCalls : Script → List FileCall → Way → Type 0
AreCalls (prints text) calls way = (calls ≡ []) × IsOrStarved way done
AreCalls (refuses why) calls way = (calls ≡ []) × IsOrStarved way (refused why)
AreCalls (reads name limit next) calls way =
    ((bytes : List ℕ) × (more : List FileCall) × (calls ≡ a_read name (Ok tt) ∷ more) × AreCalls (next bytes) more way)
    ⊎ (((fault : FileFault) × (calls ≡ with_call [] Read name (Err fault)) × IsOrStarved way (unread_way name fault))
    ⊎ ((calls ≡ []) × (way ≡ starved)))
AreCalls (opens name bytes next) calls way =
    (IsCapture bytes × AreCalls next calls way)
    ⊎ (((fault : PcapFault) × HasFault bytes fault × (calls ≡ []) × IsOrStarved way (refused (no_capture name fault)))
    ⊎ ((calls ≡ []) × (way ≡ starved)))
AreCalls (runs form captures) calls way =
    ((ran : Outcome) × (told : RunReport) × IsRun form captures ran told × AreWrites (written_files form told) ran calls way)
    ⊎ ((calls ≡ []) × (way ≡ starved))

-- the calls are those that the words ask for: none, where they are no command
abbrev pub AreCallsOf : List (List ℕ) → List FileCall → Way → Type 0
AreCallsOf words calls way =
    ((IsCommand words → ⊥) × (calls ≡ []) × (way ≡ no_words))
    ⊎ ((file : List ℕ) × (command : Command) × IsCommandOf words file command × AreCalls (command_script file command) calls way)

-- the calls made, which the files tell where they tell what they hold, are those
pub record CallsMade (w : Seen) (words : List (List ℕ)) (way : Way) : Type 0 where
  pub calls : List FileCall
  pub told : w.tells ≡ true → w.new.calls ≡ w.old.calls ++ calls
  pub are : AreCallsOf words calls way
