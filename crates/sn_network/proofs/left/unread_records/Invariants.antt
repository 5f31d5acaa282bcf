use Rattle.std.specs.Map.{keys_of}
use Rattle.sn_network.proofs.Counted.{Counts}
use Rattle.sn_network.proofs.left.unread_records.Given as goal

-- the names so far are counted
abbrev pub invariant-loop-name : goal.invariant-loop-name
invariant-loop-name l = Counts l.places l.captures 18446744073709551615 (keys_of l.plain.apps.entries) l.name-iterator l.total
