use Rattle.std.proofs.Common.{◌≡◌, ◌++◌, Some, drop, map}
use Rattle.sn_network.specs.Standing.{name_in}
use Rattle.sn_network.proofs.orders.places_of.Given as goal

-- the places so far are those of the names so far
abbrev pub invariant-loop-name : goal.invariant-loop-name
invariant-loop-name l = map (name_in l.places) l.order.items ++ map (λ name. Some name) (drop l.name-index l.names) ≡ map
    (λ name. Some name) l.names
