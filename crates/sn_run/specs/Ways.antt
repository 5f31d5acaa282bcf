-- The ways in which a command ends.
use Rattle.std.specs.Prelude.{ℕ, ◌≡◌, ◌⊎◌, Bool, true, false, List}
use Rattle.sn_outside.specs.declared.fault.FileFault.{FileFault}
use Rattle.sn_outside.specs.declared.fault.FileFault.TheVariants.{Failed, TooLong as Long}
use Rattle.sn_pcap.specs.declared.fault.PcapFault.{PcapFault}
use Rattle.sn_scenario.specs.declared.fault.ScenarioFault.{ScenarioFault}
use Rattle.sn_run.specs.declared.outcome.Outcome.{Outcome}
use Rattle.sn_run.specs.declared.outcome.Outcome.TheVariants.{Drained as Emptied, RoundsUsed as Used, JournalLimit as Limited}
use Rattle.sn_run.specs.declared.status.Status.{Status}
use Rattle.sn_run.specs.declared.status.Status.TheVariants.{Drained, RoundsUsed, JournalLimit, Done, BadWords, NoWorker}
use Rattle.sn_run.specs.declared.status.Status.TheVariants.{BadScenario, NotYet, BadPcap, ReadFault, TooLong, WriteFault}
use Rattle.sn_run.specs.declared.status.Status.TheVariants.{PrintFault, OutOfMemory}

-- why a file that was read is refused: it spells no scenario, or one without this worker, or one that doesn't run yet, or it
-- is no capture
pub data Why : Type 0 where
  no_scenario : ScenarioFault → Why
  no_worker : ℕ → Why
  not_yet : List ℕ → Why
  no_capture : List ℕ → PcapFault → Why

-- the words are no command; a file was not read; one is refused; a run came to its end; what was asked for is told; a file was
-- not written; memory lacked; the text was not printed
pub data Way : Type 0 where
  no_words : Way
  unread : List ℕ → FileFault → Way
  refused : Why → Way
  finished : Outcome → Way
  done : Way
  unwritten : List ℕ → Way
  starved : Way
  unprinted : Way

-- a run came to its end
abbrev pub is_finished : Way → Bool
is_finished (finished outcome) = true
is_finished way = false

-- The ways are one, or a run came to its end in both. Words and contents don't tell how workers meet, and so not what a run
-- leaves.
abbrev pub AreAlike : Way → Way → Type 0
AreAlike way wanted = (way ≡ wanted) ⊎ ((is_finished way ≡ true) × (is_finished wanted ≡ true))

-- the way that a status tells
abbrev pub way_of : Status → Way
way_of Drained = finished Emptied
way_of (RoundsUsed left) = finished (Used left)
way_of (JournalLimit worker) = finished (Limited worker)
way_of Done = done
way_of BadWords = no_words
way_of (NoWorker worker) = refused (no_worker worker)
way_of (BadScenario fault) = refused (no_scenario fault)
way_of (NotYet name) = refused (not_yet name)
way_of (BadPcap name fault) = refused (no_capture name fault)
way_of (ReadFault name) = unread name Failed
way_of (TooLong name) = unread name Long
way_of (WriteFault name) = unwritten name
way_of PrintFault = unprinted
way_of OutOfMemory = starved
