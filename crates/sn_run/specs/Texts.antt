-- The text that is printed for each way in which a command ends. Every line ends with a line feed.
use Rattle.std.specs.Prelude.{ℕ, List, [], ◌∷◌, ◌++◌, ◌≡◌, ◌⊎◌, codes}
use Rattle.std.specs.Fmt.{decimal}
use Rattle.sn_outside.specs.declared.fault.FileFault.{FileFault}
use Rattle.sn_outside.specs.declared.fault.FileFault.TheVariants.{Failed, TooLong, OutOfMemory}
use Rattle.sn_pcap.specs.declared.fault.PcapFault.{PcapFault}
use Rattle.sn_pcap.specs.declared.fault.PcapFault.TheVariants.{ShortHeader, BadMagic, BadVersion, CutRecord}
use Rattle.sn_scenario.specs.WhyWords.{why_word}
use Rattle.sn_run.specs.Ways.{Way, Why, way_of, no_words, unread, refused, finished, done, unwritten, starved, unprinted}
use Rattle.sn_run.specs.Ways.{no_scenario, no_worker, not_yet, no_capture}
use Rattle.sn_run.specs.declared.outcome.Outcome.{Outcome}
use Rattle.sn_run.specs.declared.outcome.Outcome.TheVariants.{Drained, RoundsUsed, JournalLimit}
use Rattle.sn_run.specs.declared.status.Status.{Status}

-- the word for a capture's fault, with the number of a cut record
abbrev pub fault_text : PcapFault → List ℕ
fault_text ShortHeader = codes "short-header"
fault_text BadMagic = codes "bad-magic"
fault_text BadVersion = codes "bad-version"
fault_text (CutRecord nth) = codes "cut-record " ++ decimal nth

-- words, what they speak of, and the line's end
abbrev pub text_line : List ℕ → List ℕ → List ℕ
text_line words of = words ++ (of ++ 10 ∷ [])

-- a file that was not read
abbrev pub unread_text : FileFault → List ℕ → List ℕ
unread_text Failed name = text_line (codes "cannot read ") name
unread_text TooLong name = text_line (codes "too long ") name
unread_text OutOfMemory name = []

-- a file that is refused
abbrev pub why_text : Why → List ℕ
why_text (no_scenario fault) = text_line (codes "scenario line ") (decimal fault.line ++ (32 ∷ why_word fault.why))
why_text (no_worker worker) = text_line (codes "no worker ") (decimal worker)
why_text (not_yet name) = text_line (codes "not yet ") name
why_text (no_capture name fault) = text_line (codes "capture ") (name ++ (32 ∷ fault_text fault))

-- a run that came to its end
abbrev pub outcome_text : Outcome → List ℕ
outcome_text Drained = text_line (codes "status drained") []
outcome_text (RoundsUsed left) = text_line (codes "status rounds-used ") (decimal left)
outcome_text (JournalLimit worker) = text_line (codes "status journal-limit ") (decimal worker)

-- want of memory prints nothing, and a refused print has no text of its own
abbrev pub way_text : Way → List ℕ
way_text no_words = text_line (codes "usage: snabbrt run FILE, check FILE, actions FILE WORKER, load N") []
way_text (unread name fault) = unread_text fault name
way_text (refused why) = why_text why
way_text (finished outcome) = outcome_text outcome
way_text done = text_line (codes "ok") []
way_text (unwritten name) = text_line (codes "cannot write ") name
way_text starved = []
way_text unprinted = []

abbrev pub text_of : Status → List ℕ
text_of status = way_text (way_of status)

-- the way in which a command ends, and the text that is printed for it
pub record Said : Type 0 where
  pub way : Way
  pub text : List ℕ

-- a way with its own text, and want of memory
abbrev pub said_of : Way → Said
said_of way = record { way = way; text = way_text way }

abbrev pub starving : Said
starving = said_of starved

-- what is said of a read that was refused
abbrev pub unread_said : List ℕ → FileFault → Said
unread_said name Failed = said_of (unread name Failed)
unread_said name TooLong = said_of (unread name TooLong)
unread_said name OutOfMemory = starving

-- an answer of this status with this text
abbrev pub saying : Status → List ℕ → Said
saying status text = record { way = way_of status; text = text }

-- the answer says this, or that memory lacked
abbrev pub SaysOrStarves : Said → Said → Type 0
SaysOrStarves said wanted = (said ≡ wanted) ⊎ (said ≡ starving)
