use Rattle.std.proofs.Common.{All, List, ap, arith, length, subst, sym, ◌∙◌}
use Rattle.std.specs.Map.{keys_of}
use Rattle.sn_actions.proofs.ActionNames.{all_changes, few_changes}
use Rattle.sn_actions.proofs.DiffLaw.{leads_to}
use Rattle.sn_actions.proofs.Uniqueness.{apps_once, links_once, names_once}
use Rattle.sn_actions.specs.Diffs.{IsChange}
use Rattle.sn_actions.specs.declared.action.Action.{Action}
use Rattle.sn_actions.specs.Plains.{apply_all, full}
use Rattle.sn_actions.proofs.differences.diff.Goals as goal

pub returns-clause-law : goal.returns-clause-law
returns-clause-law c =
    ap (λ actions. apply_all actions (full c.args.old.now)) c.in_ok-actions.ensures.list
    ∙ leads_to c.args.old.now c.args.new.now c.recall_order.ensures.valid c.recall_order-2.ensures.valid
    (links_once c.args.old.now.links c.recall_order.ensures.links)
    (links_once c.args.new.now.links c.recall_order-2.ensures.links)
    (names_once (keys_of c.args.old.now.apps) c.recall_order.ensures.apps)
    (apps_once c.args.new.now.apps (names_once (keys_of c.args.new.now.apps) c.recall_order-2.ensures.apps))

pub returns-clause-changes : goal.returns-clause-changes
returns-clause-changes c =
    subst (All (IsChange c.args.old.now c.args.new.now)) (sym c.in_ok-actions.ensures.list) (all_changes c.args.old.now c.args.new.now c.recall_order-2.ensures.apps)

pub returns-clause-few : goal.returns-clause-few
returns-clause-few c =
    let few = few_changes c.args.old.now c.args.new.now c.recall_order.ensures.valid c.recall_order-2.ensures.valid in
    omega (arith, ap (λ (actions : List Action). length actions) c.in_ok-actions.ensures.list)
