-- answers of src/tests.rt, a_repeater_keeps_its_packets_and_sends_copies
use Rattle.std.proofs.Common.{None, ap, arith, length, ℕ, ◌∙◌, ◌≡◌}
use Rattle.sn_app.specs.Apps.{AppState, repeater}
use Rattle.sn_app.specs.Bench.{BenchState}
use Rattle.app_rig.proofs.tests.a_repeater_keeps_its_packets_and_sends_copies.Goals as goal

row_in : AppState → ℕ
row_in (repeater row kept next) = row
row_in other = 0

pub after-requires-clause-ready : goal.after-requires-clause-ready
unfolding row_in
after-requires-clause-ready g c =
    let row_is : c.in_ok-app.app.row ≡ 2 = ap row_in (c.in_ok-app.ensures.started (λ place. None)) in
    let apps_are : length c.start.new.ctx.roster.apps ≡ 3 =
    ap (λ (bench : BenchState). length bench.roster.apps) (c.in_ok-app.ensures.same ∙ c.in_ok-sample.ensures.same ∙ c.in_ok-source.ensures.same)
    ∙ c.in_ok-bench.ensures in
    omega (arith, row_is, apps_are)
