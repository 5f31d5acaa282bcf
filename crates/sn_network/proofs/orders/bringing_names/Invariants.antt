use Rattle.std.proofs.Common.{◌≡◌, ◌++◌}
use Rattle.sn_network.specs.Orders.{bringing}
use Rattle.sn_network.proofs.orders.bringing_names.Given as goal

-- the names so far, and those to come
abbrev pub invariant-loop-name : goal.invariant-loop-name
invariant-loop-name l = l.names.items ++ bringing l.name-iterator ≡ bringing l.apps.entries
