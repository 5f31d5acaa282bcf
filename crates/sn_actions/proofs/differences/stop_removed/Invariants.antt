use Rattle.std.proofs.Common.{is_some, map, not, ◌++◌, ◌≡◌}
use Rattle.std.specs.Map.{keys_of}
use Rattle.std.specs.Prelude.{filter}
use Rattle.sn_actions.specs.declared.action.Action.TheVariants.{StopApp}
use Rattle.sn_config.specs.Configs.{app_at}
use Rattle.sn_actions.proofs.differences.stop_removed.Given as goal

-- the actions so far and those of the apps to come are those of all
abbrev pub invariant-loop-name : goal.invariant-loop-name
invariant-loop-name l =
    l.actions.items ++ map StopApp (filter (λ name. not (is_some (app_at l.new.entries name))) l.name-iterator) ≡ l.fn.actions.items ++ map StopApp (filter (λ name. not (is_some (app_at l.new.entries name))) (keys_of l.old.entries))
