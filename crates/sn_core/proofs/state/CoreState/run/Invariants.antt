use Rattle.std.proofs.Common.{◌≡◌, ◌≤◌, take}
use Rattle.sn_core.specs.Core.{all_after, done_count}
use Rattle.sn_core.proofs.state.CoreState.run.Given as goal

abbrev pub invariant-loop-event : goal.invariant-loop-event
invariant-loop-event l =
    (l.state ≡ all_after l.fn.state (take l.event-index l.events)) × (l.done ≡ done_count l.fn.state (take l.event-index l.events)) × (l.done ≤ l.event-index)
