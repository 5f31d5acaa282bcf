use Rattle.std.proofs.Common.{◌++◌, ◌≡◌}
use Rattle.std.specs.Prelude.{flat_map}
use Rattle.sn_actions.specs.Diffs.{change}
use Rattle.sn_config.specs.Configs.{app_at}
use Rattle.sn_actions.proofs.differences.change_apps.Given as goal

-- the actions so far and those of the apps to come are those of all
abbrev pub invariant-loop-name : goal.invariant-loop-name
invariant-loop-name l =
    l.actions.items ++ flat_map (λ app. change app.0 app.1 (app_at l.old.entries app.0)) l.name-iterator ≡ l.fn.actions.items ++ flat_map (λ app. change app.0 app.1 (app_at l.old.entries app.0)) l.new.entries
