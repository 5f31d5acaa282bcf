use Rattle.std.proofs.Common.{◌≡◌}
use Rattle.std.specs.List.{filter, range_with_len}
use Rattle.sn_order.specs.Ranks.{is_free}
use Rattle.sn_order.proofs.ranks.free_of.Given as goal

abbrev pub invariant-loop-app : goal.invariant-loop-app
invariant-loop-app l = l.free.keys ≡ filter (is_free l.counts.items) (range_with_len 0 l.app)
