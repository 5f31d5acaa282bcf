use Rattle.std.proofs.Common.{arith}
use Rattle.sn_crew.proofs.Working.{worked}
use Rattle.sn_crew.proofs.place.Place.work.Goals as goal

pub overflow_add-rounds : goal.overflow_add-rounds
overflow_add-rounds g c = omega (arith, c.requires.few, c.settings.ensures.bounds.rounds.1)

pub returns-in-Ok : goal.returns-in-Ok
returns-in-Ok g c = record {
  slot = λ none. worked c.args.scenario.now c.args.shared.now c.args.rounds c.args.worker c.args.self.now.slot c.round.new.self
      c.requires.ready.slot c.requires.ready.unspent c.round.ensures.fits c.in-Ok.ensures.can c.in-Ok.ensures.reads
      c.round.ensures.bond c.round.ensures.same;
}
