use Rattle.std.proofs.Common.{◌≤◌, All, rules, refl, subst, sym}
use Rattle.sn_journal.specs.declared.entry.Entry.TheVariants.{Hear}
use Rattle.sn_seat.proofs.Telling.{told_other}
use Rattle.sn_seat.proofs.ledger.Ledger.hear.Goals as goal

pub invariant_of-self-clause-told : goal.invariant_of-self-clause-told
invariant_of-self-clause-told c =
    rw c.add.ensures.added (told_other c.args.self.now.told c.args.self.now.hold c.args.self.now.group c.hear-due.new.self
    (Hear c.hear-due.result) refl (search rules) c.hear-due.ensures.heard (λ f. refl))

pub returns-clause-rising : goal.returns-clause-rising
returns-clause-rising c =
    subst (All (λ n. n ≤ c.hear-due.result)) (sym c.args.self.now.told.listened) c.hear-due.ensures.rising
