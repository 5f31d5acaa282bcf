use Rattle.std.proofs.Common.{◌≡◌, false, true}
use Rattle.sn_interlink.specs.declared.view.EndState.TheVariants.{Up}
use Rattle.interlink_bench.proofs.relay.receive.Given as goal

abbrev pub invariant-loop : goal.invariant-loop
invariant-loop l = (l.rx.lane ≡ l.lane) × (l.rx.state ≡ Up) × (l.rx.half ≡ false) × (l.rx.synced ≡ true)
