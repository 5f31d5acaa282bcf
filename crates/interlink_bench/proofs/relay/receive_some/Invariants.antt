use Rattle.std.proofs.Common.{◌≡◌, ◌≤◌, false, true}
use Rattle.sn_interlink.specs.declared.view.EndState.TheVariants.{Up}
use Rattle.sn_interlink.specs.Ends.{reach_of}
use Rattle.interlink_bench.proofs.relay.receive_some.Given as goal

abbrev pub invariant-loop-left : goal.invariant-loop-left
invariant-loop-left l = (l.rx.lane ≡ l.lane) × (l.rx.state ≡ Up) × (l.rx.half ≡ false) × (l.rx.synced ≡ true) × (l.left ≤ reach_of l.rx)

abbrev pub decreases-loop-left : goal.decreases-loop-left
decreases-loop-left l = l.left
