use Rattle.std.proofs.Common.{◌++◌, ◌≡◌}
use Rattle.std.specs.Prelude.{flat_map}
use Rattle.sn_actions.specs.Diffs.{link_change}
use Rattle.sn_actions.proofs.differences.change_links.Given as goal

-- the actions so far and those of the links to come are those of all
abbrev pub invariant-loop-link : goal.invariant-loop-link
invariant-loop-link l =
    l.actions.items ++ flat_map (link_change l.old l.new) l.link-iterator ≡ l.fn.actions.items ++ flat_map (link_change l.old l.new) l.new.links
