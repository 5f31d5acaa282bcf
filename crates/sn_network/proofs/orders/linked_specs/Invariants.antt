use Rattle.std.proofs.Common.{◌≡◌, ◌++◌, filter}
use Rattle.std.specs.Map.{values_of}
use Rattle.sn_actions.specs.PlainOf.{plain_of}
use Rattle.sn_network.specs.Orders.{is_linked}
use Rattle.sn_network.proofs.orders.linked_specs.Given as goal

-- the links so far, and those to come
abbrev pub invariant-loop-link : goal.invariant-loop-link
invariant-loop-link l = l.links.items ++ filter (is_linked (plain_of l.plain)) l.link-iterator ≡ filter
    (is_linked (plain_of l.plain)) (values_of l.plain.outs.entries)
