use Rattle.std.proofs.Common.{[], arith}
use Rattle.sn_journal.proofs.Balances.{balance}
use Rattle.sn_journal.proofs.laws.holding_balances.Goals as goal

pub returns : goal.returns
returns c = λ entries f only. omega (arith, balance f [] entries only.each)
