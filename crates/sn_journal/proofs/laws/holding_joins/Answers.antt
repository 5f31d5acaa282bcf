use Rattle.std.proofs.Common.{[]}
use Rattle.sn_journal.proofs.Balances.{held_from-append, speak-parts}
use Rattle.sn_journal.proofs.laws.holding_joins.Goals as goal

pub returns-clause-held : goal.returns-clause-held
returns-clause-held c = held_from-append []

pub returns-clause-first : goal.returns-clause-first
returns-clause-first c = λ before after only. record { each = (speak-parts [] before after only.each).0 }

pub returns-clause-then : goal.returns-clause-then
returns-clause-then c = λ before after only. (speak-parts [] before after only.each).1
