use Rattle.std.proofs.Common.{◌≡◌, ◌+◌, ◌++◌, drop}
use Rattle.sn_run.specs.ActionTexts.{actions_text}
use Rattle.sn_run.proofs.action_text.push_actions.Given as goal

-- the lines so far and those of the actions that are left are all lines
abbrev pub invariant-loop-action : goal.invariant-loop-action
invariant-loop-action l = record {
  number : l.number ≡ l.action-index + 1;
  lines : l.into.items ++ actions_text l.number (drop l.action-index l.actions) ≡ l.fn.into.items ++ actions_text 1 l.actions;
}
