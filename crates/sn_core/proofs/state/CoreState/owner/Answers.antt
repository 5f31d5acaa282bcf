use Rattle.std.proofs.Common.{arith, sym, subst, ◌<◌}
use Rattle.sn_core.specs.State.{core_of}
use Rattle.sn_core.specs.Ownership.{owned_packets}
use Rattle.sn_core.specs.Sound.{count_of}
use Rattle.sn_core.proofs.Ownership.{one_owner}
use Rattle.sn_core.proofs.state.CoreState.owner.Goals as goal

pub returns-clause-only : goal.returns-clause-only
returns-clause-only c = λ other some.
    let core = core_of c.self.inside.machine in
    let there : 0 < count_of c.args.number (owned_packets core other) = subst (λ x. 0 < count_of c.args.number (owned_packets x other)) (sym c.self.view_is) some in
    one_owner core c.self.invariant.sound.stands c.args.number other c.owner.result there (omega (arith, c.owner.ensures.stands))
