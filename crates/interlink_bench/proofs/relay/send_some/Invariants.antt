use Rattle.std.proofs.Common.{◌≡◌, ◌≤◌, false}
use Rattle.sn_interlink.specs.declared.view.EndState.TheVariants.{Up}
use Rattle.sn_interlink.specs.Ends.{reach_of}
use Rattle.interlink_bench.proofs.relay.send_some.Given as goal

abbrev pub invariant-loop-left : goal.invariant-loop-left
invariant-loop-left l = (l.tx.lane ≡ l.lane) × (l.tx.state ≡ Up) × (l.tx.half ≡ false) × (l.left ≤ reach_of l.tx)

abbrev pub decreases-loop-left : goal.decreases-loop-left
decreases-loop-left l = l.left
