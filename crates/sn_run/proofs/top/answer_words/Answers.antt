use Rattle.sn_run.proofs.ScriptEnds.{never_unprinted}
use Rattle.sn_run.proofs.top.answer_words.Goals as goal

pub finish-requires-2 : goal.finish-requires-2
finish-requires-2 g c = record { answer = never_unprinted _ _ _ _ _ _ _ c.run_command-answer.ensures }
