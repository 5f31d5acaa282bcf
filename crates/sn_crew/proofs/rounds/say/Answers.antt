use Rattle.std.proofs.Common.{arith}
use Rattle.sn_manager.specs.Managers.{speakers_in}
use Rattle.sn_crew.proofs.Speaking.{said_on}
use Rattle.sn_crew.proofs.rounds.say.Goals as goal

pub overflow_add-rounds : goal.overflow_add-rounds
overflow_add-rounds c = omega (arith, c.requires.few, c.settings.ensures.bounds.rounds.1)

pub returns-clause-said : goal.returns-clause-said
returns-clause-said c =
    let e = c.round.ensures in
    said_on c.args.scenario.now c.args.shared.now c.args.rounds (speakers_in c.args.manager.now) (speakers_in c.round.new.self)
    c.requires.said e.said e.channels e.ahead
