use Rattle.std.proofs.Common.{arith, get_or, ℕ, ◌≡◌}
use Rattle.sn_scenario.proofs.DueCounts.{due_fits, due_last, due_next}
use Rattle.sn_scenario.specs.PlanLaws.{AreCounts, count_at}
use Rattle.sn_scenario.proofs.plan.due_from.Goals as goal

pub loop-at-preserved : goal.loop-at-preserved
unfolding AreCounts
loop-at-preserved c =
    let x = c.index-placed-at.result in
    let count : ℕ = get_or c.args.counts.now c.loop-at.at 0 in
    let counted : count ≡ count_at c.args.placed.now c.loop-at.at x = c.requires.counted.each c.loop-at.at x c.loop-at-test.true c.index-placed-at.is in
    record {
      counted = rw c.due_of_one-due.ensures.due (due_next c.args.worker c.args.round c.args.placed.now c.loop-at.at x _ c.loop-at.due count c.loop-at-test.true c.index-placed-at.is counted c.loop-at.invariant.counted);
      fits = rw c.due_of_one-due.ensures.due (due_fits c.args.worker c.args.round c.args.placed.now c.loop-at.at x c.loop-at.due count c.loop-at-test.true c.index-placed-at.is (omega (arith, c.type_inv.counts c.loop-at.at)) c.loop-at.invariant.fits);
    }

pub returns : goal.returns
returns c = due_last c.args.worker c.args.round c.args.placed.now c.loop-at.at _ c.loop-at.due (omega arith) c.loop-at.invariant.counted
