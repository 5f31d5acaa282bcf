use Rattle.std.proofs.Common.{◌≡◌, drop, true, is_some, arith, sym, ap, ◌∙◌, subst}
use Rattle.std.specs.List.{All}
use Rattle.sn_core.specs.Lane.{LaneState, first_filled, unreleased, taken}
use Rattle.sn_core.proofs.Queues.{Filled, first_within, next_read, unreleased_next}
use Rattle.sn_core.proofs.lane.Lane.take.Goals as goal

pub index_mut-requires : goal.index_mut-requires
index_mut-requires c =
    let queue = c.self.inside.queue in
    let first = subst (λ l. is_some (first_filled l.queue) ≡ true) (sym c.self.view_is) c.requires.first in
    omega (arith, c.self.invariant.2, queue.ok, first_within queue.items first)

pub overflow_add-self : goal.overflow_add-self
overflow_add-self c =
    let queue = c.self.inside.queue in
    let first = subst (λ l. is_some (first_filled l.queue) ≡ true) (sym c.self.view_is) c.requires.first in
    omega (arith, c.self.invariant.2, queue.ok, first_within queue.items first)

pub invariant_of-self : goal.invariant_of-self
invariant_of-self c =
    let queue = c.self.inside.queue in
    let first = subst (λ l. is_some (first_filled l.queue) ≡ true) (sym c.self.view_is) c.requires.first in
    let filled = subst (λ l. All Filled (drop (unreleased l.queue) l.queue)) (sym c.self.view_is) c.requires.whole.filled in
    let next = ap (λ q. unreleased q) (next_read queue.items c.self.inside.emptied c.self.invariant.2) in (
      c.self.invariant.0,
      c.self.invariant.1,
      omega (arith, c.self.invariant.2, next, unreleased_next queue.items first filled),
    )

pub returns : goal.returns
returns c =
    let lane = c.self.inside in
    let next = next_read lane.queue.items lane.emptied c.self.invariant.2 in
    ap {B = LaneState} (λ q. record { tx_seat = lane.tx_seat; rx_seat = lane.rx_seat; tx = lane.tx; rx = lane.rx; put = lane.put; read = lane.read; queue = q; laid = lane.laid.items; closes = lane.closes }) next
    ∙ ap (λ l. taken l) c.self.view_is
