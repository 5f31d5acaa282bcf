use Rattle.std.proofs.Common.{◌≡◌, false}
use Rattle.sn_interlink.specs.declared.view.EndState.TheVariants.{Up}
use Rattle.interlink_bench.proofs.relay.send.Given as goal

abbrev pub invariant-loop : goal.invariant-loop
invariant-loop l = (l.tx.lane ≡ l.lane) × (l.tx.state ≡ Up) × (l.tx.half ≡ false)
