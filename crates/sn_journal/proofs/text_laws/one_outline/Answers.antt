use Rattle.sn_journal.proofs.LineCuts.{one_fault}
use Rattle.sn_journal.proofs.Outlines.{no_outline, one_outline}
use Rattle.sn_journal.proofs.text_laws.one_outline.Goals as goal

pub returns-clause-lines : goal.returns-clause-lines
returns-clause-lines c = one_outline

pub returns-clause-fault : goal.returns-clause-fault
returns-clause-fault c = one_fault

pub returns-clause-either : goal.returns-clause-either
returns-clause-either c = no_outline
