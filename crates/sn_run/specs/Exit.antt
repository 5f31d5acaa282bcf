-- The program's exit status.
use Rattle.std.specs.Prelude.{ℕ, List, IsSome, ◌≡◌, ◌↔◌}
use Rattle.sn_run.specs.Answers.{Answered}
use Rattle.sn_run.specs.Printed.{Sunk}
use Rattle.sn_run.specs.Seen.{Seen}
use Rattle.sn_run.specs.declared.status.Ended.{Ended}
use Rattle.sn_run.specs.declared.status.Status.{Status}
use Rattle.sn_run.specs.declared.status.Status.TheVariants.{Drained, RoundsUsed, JournalLimit, Done, BadWords, NoWorker}
use Rattle.sn_run.specs.declared.status.Status.TheVariants.{BadScenario, NotYet, BadPcap, ReadFault, TooLong, WriteFault}
use Rattle.sn_run.specs.declared.status.Status.TheVariants.{PrintFault, OutOfMemory}

abbrev pub exit_number : Status → ℕ
exit_number Drained = 0
exit_number (RoundsUsed left) = 4
exit_number (JournalLimit worker) = 4
exit_number BadWords = 1
exit_number Done = 0
exit_number (NoWorker worker) = 3
exit_number (BadScenario fault) = 3
exit_number (NotYet name) = 3
exit_number (BadPcap name fault) = 3
exit_number (ReadFault name) = 2
exit_number (TooLong name) = 2
exit_number (WriteFault name) = 2
exit_number PrintFault = 2
exit_number OutOfMemory = 5

-- the number is the exit status of an answer to these words
pub record ExitsWith (w : Seen) (s : Sunk) (words : List (List ℕ)) (number : ℕ) : Type 0 where
  pub ended : Ended
  pub answered : Answered w s words ended
  pub replaced : IsSome ended.replaced ↔ (ended.status ≡ PrintFault)
  pub number_is : number ≡ exit_number ended.status
