use Rattle.std.proofs.Common.{◌≡◌, length, ◌++◌, drop}
use Rattle.std.specs.List.{filter_map}
use Rattle.sn_order.specs.Ranks.{AreWithin, edge_of, edges_of}
use Rattle.sn_order.proofs.names.edges_of.Given as goal

abbrev pub invariant-loop-link : goal.invariant-loop-link
invariant-loop-link l = record {
  edges : l.edges.items ++ filter_map (edge_of l.names) (drop l.link-index l.links) ≡ edges_of l.fn.names l.fn.links;
  within : AreWithin (length l.names) l.edges.items;
}
