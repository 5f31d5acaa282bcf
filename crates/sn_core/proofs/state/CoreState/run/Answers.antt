use Rattle.sn_core.proofs.Runs.{run_more}
use Rattle.sn_core.proofs.state.CoreState.run.Goals as goal

pub loop-event-preserved : goal.loop-event-preserved
loop-event-preserved c =
    run_more c.args.state.now c.loop-event.state c.count_step-done.new.self c.args.events.now c.loop-event.event-index c.loop-event.done c.count_step-done.result _
    c.loop-event-test.true c.loop-event.invariant.0 c.loop-event.invariant.1 c.loop-event.invariant.2 c.count_step-done.ensures.state c.count_step-done.ensures.count
