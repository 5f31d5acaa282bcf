use Rattle.sn_seat.proofs.Telling.{told_plain}
use Rattle.sn_seat.proofs.ledger.Ledger.note.Goals as goal

pub invariant_of-self-clause-told : goal.invariant_of-self-clause-told
invariant_of-self-clause-told c = rw c.add.ensures.added (told_plain c.args.self.now.told c.args.entry c.requires.plain)
