-- answers of src/breath.rt, breathe
use Rattle.std.proofs.Common.{Err, rules, ◌≡◌}
use Rattle.sn_network.specs.Networks.{plain_in}
use Rattle.sn_breath.proofs.Folds.{breath_fails, runs_breath}
use Rattle.sn_breath.proofs.breath.breathe.Goals as goal

pub returns-in_err-pull_all-clause-runs : goal.returns-in_err-pull_all-clause-runs
returns-in_err-pull_all-clause-runs g c =
    let e : c.from_residual.result ≡ Err c.in_err-pull_all.field-0.0 = search rules in
    rw e (breath_fails _ _ _ _ _ _ c.in_err-pull_all.field-0.0 c.in_err-pull_all.ensures.runs)

pub returns-clause-runs : goal.returns-clause-runs
returns-clause-runs g c =
    runs_breath _ _ _ _ _ _ _ _ (plain_in c.pull_all.new.network) _ c.pull_all.ensures.plain c.in_ok-pull_all.ensures.runs
    c.push_all.ensures.runs
