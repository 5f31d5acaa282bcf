-- answers of src/giving.rt, give_after
use Rattle.std.proofs.lemmas.Bool.{eq-eqb, ne_eqb}
use Rattle.sn_worker.proofs.GivingBack.{after_fewer, after_hundred}
use Rattle.sn_worker.proofs.giving.give_after.Goals as goal

pub returns-then-breathed-eq0-clause-reads : goal.returns-then-breathed-eq0-clause-reads
returns-then-breathed-eq0-clause-reads g c =
    after_hundred c.args.keep c.args.breathed _ _ _ (eq-eqb c.args.breathed 0 c.if-breathed-eq0.true) c.give_over.ensures.reads

pub returns-clause-reads : goal.returns-clause-reads
returns-clause-reads g c = after_fewer c.args.keep c.args.breathed _ (ne_eqb c.args.breathed 0 c.if-breathed-eq0.false)
