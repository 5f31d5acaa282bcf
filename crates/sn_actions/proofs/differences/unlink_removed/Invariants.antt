use Rattle.std.proofs.Common.{◌++◌, ◌≡◌}
use Rattle.std.specs.Prelude.{flat_map}
use Rattle.sn_actions.specs.Diffs.{removed_links, unlinking}
use Rattle.sn_actions.proofs.differences.unlink_removed.Given as goal

-- the actions so far and those of the links to come are those of all
abbrev pub invariant-loop-link : goal.invariant-loop-link
invariant-loop-link l =
    l.actions.items ++ flat_map unlinking (removed_links l.link-iterator l.new.keys) ≡ l.fn.actions.items ++ flat_map unlinking (removed_links l.old.keys l.new.keys)
