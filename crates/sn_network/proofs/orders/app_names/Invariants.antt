use Rattle.std.proofs.Common.{◌≡◌, ◌++◌}
use Rattle.std.specs.Map.{keys_of}
use Rattle.sn_network.proofs.orders.app_names.Given as goal

-- the names so far, and those to come
abbrev pub invariant-loop-name : goal.invariant-loop-name
invariant-loop-name l = l.names.items ++ l.name-iterator ≡ keys_of l.apps.entries
