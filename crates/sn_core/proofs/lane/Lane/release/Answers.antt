use Rattle.std.proofs.Common.{drop, arith, sym, ap, ◌∙◌, subst}
use Rattle.std.specs.List.{All}
use Rattle.sn_core.specs.Lane.{unreleased}
use Rattle.sn_core.proofs.Queues.{Filled, unreleased_dropped}
use Rattle.sn_core.proofs.lane.Lane.release.Goals as goal

pub invariant_of-self : goal.invariant_of-self
invariant_of-self c =
    let queue = c.self.inside.queue in
    let filled = subst (λ l. All Filled (drop (unreleased l.queue) l.queue)) (sym c.self.view_is) c.requires.whole.filled in (
      omega (arith, c.self.invariant.0, c.drop_places.ensures.capacity),
      c.self.invariant.1,
      sym (ap (λ q. unreleased q) c.drop_places.ensures.places ∙ ap (λ n. unreleased (drop n queue.items)) c.self.invariant.2 ∙ unreleased_dropped queue.items filled),
    )
