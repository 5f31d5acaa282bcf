use Rattle.std.proofs.Common.{◌≡◌, ◌+◌, ◌++◌, ◌<◌, length, map, All, vec_len}
use Rattle.sn_group.specs.Views.{logs_in}
use Rattle.sn_group.specs.Seats.{log_of, IsAtRest, IsGathered}
use Rattle.sn_group.proofs.group.gather.Given as goal

abbrev pub invariant-loop-seats : goal.invariant-loop-seats
invariant-loop-seats l = (l.whole.table_id ≡ l.steps.table_id) × IsGathered (l.whole.me.0.parts) (logs_in l.whole.me.0) l.whole.me × (0 < l.whole.me.0.parts)
    × (l.whole.me.0.parts + length l.seats.items ≡ length l.fn.seats.items) × (map log_of l.seats.items ++ logs_in l.whole.me.0 ≡ map log_of l.fn.seats.items)
    × All (IsAtRest l.steps.table_id) l.seats.items

abbrev pub decreases-loop-seats : goal.decreases-loop-seats
decreases-loop-seats l = vec_len l.seats
