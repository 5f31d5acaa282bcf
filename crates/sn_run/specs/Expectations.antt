-- Where files that tell what they hold, and don't fail, lead a script: the answer that words and contents make.
use Rattle.std.specs.Prelude.{ℕ, ◌≡◌, ◌⊎◌, List}
use Rattle.sn_outside.specs.Contents.{Contents}
use Rattle.sn_outside.specs.declared.fault.FileFault.{FileFault}
use Rattle.sn_outside.specs.declared.fault.FileFault.TheVariants.{Failed, TooLong, OutOfMemory}
use Rattle.sn_pcap.specs.declared.fault.PcapFault.{PcapFault}
use Rattle.sn_pcap.specs.Faults.{HasFault}
use Rattle.sn_run.specs.Captures.{IsCapture}
use Rattle.sn_run.specs.Commands.{IsCommand, IsCommandOf}
use Rattle.sn_run.specs.Scripts.{Script, prints, refuses, reads, opens, runs, command_script}
use Rattle.sn_run.specs.Seen.{Holds, IsOver}
use Rattle.sn_run.specs.Texts.{Said, said_of}
use Rattle.sn_run.specs.Ways.{Way, no_words, unread, refused, finished, done, unwritten, starved, unprinted, no_capture}
use Rattle.sn_run.specs.declared.command.Command.{Command}
use Rattle.sn_run.specs.declared.outcome.Outcome.{Outcome}

-- the contents lead the script to this; a run may end in any way, and its report says in which (Headline)
unfoldable pub Leads : Script → Contents → Said → Type 0
Leads (prints text) m said = said ≡ record { way = done; text = text }
Leads (refuses why) m said = said ≡ said_of (refused why)
Leads (reads name limit next) m said =
    ((bytes : List ℕ) × Holds m name limit bytes × Leads (next bytes) m said)
    ⊎ (IsOver m name limit × (said ≡ said_of (unread name TooLong)))
Leads (opens name bytes next) m said =
    (IsCapture bytes × Leads next m said)
    ⊎ ((fault : PcapFault) × HasFault bytes fault × (said ≡ said_of (refused (no_capture name fault))))
Leads (runs form captures) m said = (ran : Outcome) × (said ≡ said_of (finished ran))

-- the words are a command, whose script the contents lead to this
pub record CommandLeads (m : Contents) (words : List (List ℕ)) (said : Said) : Type 0 where
  pub file : List ℕ
  pub command : Command
  pub asked : IsCommandOf words file command
  pub leads : Leads (command_script file command) m said

-- the answer that words and contents lead to
abbrev pub Expected : Contents → List (List ℕ) → Said → Type 0
Expected m words said = ((IsCommand words → ⊥) × (said ≡ said_of no_words)) ⊎ CommandLeads m words said

-- some text is expected with this answer
abbrev pub IsExpected : Contents → List (List ℕ) → Way → Type 0
IsExpected m words way = (text : List ℕ) × Expected m words (record { way = way; text = text })

-- the answer tells of a fault of files, or that memory lacked
abbrev pub IsUnreadFault : FileFault → Type 0
IsUnreadFault Failed = Unit {0}
IsUnreadFault TooLong = ⊥
IsUnreadFault OutOfMemory = ⊥

abbrev pub IsOutside : Way → Type 0
IsOutside no_words = ⊥
IsOutside (unread name fault) = IsUnreadFault fault
IsOutside (refused why) = ⊥
IsOutside (finished outcome) = ⊥
IsOutside done = ⊥
IsOutside (unwritten name) = Unit {0}
IsOutside starved = Unit {0}
IsOutside unprinted = ⊥
