use Rattle.std.proofs.Common.{◌≡◌, false}
use Rattle.sn_interlink.specs.declared.view.EndState.TheVariants.{Out}
use Rattle.interlink_bench.proofs.main.Given as goal

abbrev pub invariant-loop : goal.invariant-loop
invariant-loop g l = (l.tx.lane ≡ l.lane-inside.table.shared.table_id) × (l.rx.lane ≡ l.lane-inside.table.shared.table_id) × (l.tx.state ≡ Out) × (l.rx.state ≡ Out) × (l.tx.half ≡ false) × (l.rx.half ≡ false)
