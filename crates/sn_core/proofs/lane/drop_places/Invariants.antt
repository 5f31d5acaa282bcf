use Rattle.std.proofs.Common.{◌≡◌, drop}
use Rattle.std.specs.VecDeque.{deque_capacity}
use Rattle.sn_core.proofs.lane.drop_places.Given as goal

abbrev pub invariant-loop-place : goal.invariant-loop-place
invariant-loop-place l =
    (l.queue.items ≡ drop l._place l.fn.queue.items) × (deque_capacity l.queue ≡ deque_capacity l.fn.queue)
