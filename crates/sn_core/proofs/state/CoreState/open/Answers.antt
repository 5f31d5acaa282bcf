use Rattle.std.proofs.Common.{sym, subst}
use Rattle.sn_core.specs.Invariant.{IsKept}
use Rattle.sn_core.proofs.Opening.{opened_kept}
use Rattle.sn_core.proofs.state.CoreState.open.Goals as goal

pub invariant_of-result : goal.invariant_of-result
invariant_of-result c =
    subst (λ core. IsKept core) (sym c.in_ok-open.ensures) (opened_kept c.args.pool c.args.seats c.args.lanes.now c.requires.pool_most c.requires.seats_most c.requires.lanes_most c.requires.ends)

pub returns-clause-sound : goal.returns-clause-sound
returns-clause-sound c =
    (subst (λ core. IsKept core) (sym c.in_ok-open.ensures) (opened_kept c.args.pool c.args.seats c.args.lanes.now c.requires.pool_most c.requires.seats_most c.requires.lanes_most c.requires.ends)).sound
