use Rattle.std.proofs.Common.{[], ◌∷◌, arith, sym, ap, ◌∙◌}
use Rattle.sn_core.specs.Lane.{unreleased}
use Rattle.sn_core.proofs.Queues.{unreleased_more}
use Rattle.sn_core.proofs.lane.Lane.publish_first.Goals as goal

pub invariant_of-self : goal.invariant_of-self
invariant_of-self c = (
  omega (arith, c.self.invariant.0, c.push_back_reserved.ensures.capacity),
  omega (arith, c.self.invariant.1, c.remove.ensures.capacity),
  c.self.invariant.2 ∙ sym (unreleased_more c.self.inside.queue.items (c.args.packet ∷ [])) ∙ sym (ap (λ q. unreleased q) c.push_back_reserved.ensures.items),
)
