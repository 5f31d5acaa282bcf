use Rattle.std.proofs.Common.{◌≡◌, map, ◌++◌, drop}
use Rattle.sn_order.specs.Ranks.{name_at}
use Rattle.sn_order.proofs.names.named.Given as goal

abbrev pub invariant-loop-rank : goal.invariant-loop-rank
invariant-loop-rank l = l.order.items ++ map (name_at l.names) (drop l.rank-index l.ranks) ≡ map (name_at l.fn.names) l.fn.ranks
