use Rattle.sn_journal.proofs.Balances.{held_by_weight}
use Rattle.sn_journal.proofs.laws.held_by_weight.Goals as goal

pub returns : goal.returns
returns c = held_by_weight
