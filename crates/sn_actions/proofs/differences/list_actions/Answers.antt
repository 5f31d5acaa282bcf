use Rattle.sn_actions.proofs.ActionLists.{joined}
use Rattle.sn_actions.proofs.differences.list_actions.Goals as goal

pub returns : goal.returns
returns c =
    let unlinked = rw (c.links.ensures.same, c.links-2.ensures.same, c.new-actions.ensures.items) at c.in_ok-unlink_removed.ensures in
    let stopped = rw (c.apps.ensures.same, c.apps-2.ensures.same) at c.in_ok-stop_removed.ensures in
    let changed = rw (c.apps-3.ensures.same, c.apps-4.ensures.same) at c.in_ok-change_apps.ensures in
    record {
      list = joined _ _ _ _ c.unlink_removed.new.actions.items c.stop_removed.new.actions.items c.change_apps.new.actions.items c.change_links.new.actions.items unlinked stopped changed c.in_ok-change_links.ensures;
    }
