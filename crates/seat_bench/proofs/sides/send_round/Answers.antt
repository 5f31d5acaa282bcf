-- answers of src/sides.rt, send_round
use Rattle.sn_basic.specs.Counts.{HasRow-stays}
use Rattle.sn_core.specs.declared.events.Side.TheVariants.{Tx}
use Rattle.sn_edge.specs.Needs.{HasEnd-stays}
use Rattle.seat_bench.proofs.Wiring.{wired_then}
use Rattle.seat_bench.proofs.sides.send_round.Goals as goal

pub push_once-requires-clause-ready : goal.push_once-requires-clause-ready
push_once-requires-clause-ready g c =
    HasEnd-stays _ _ Tx _ _ c.in_ok-pull_once.ensures.stays c.requires.ready.puts

pub push_once-requires-clause-wired : goal.push_once-requires-clause-wired
push_once-requires-clause-wired g c =
    let first = c.in_ok-pull_once.ensures in
    wired_then c.requires.wired first.moves first.rows first.outs first.ins

pub returns-clause-ready : goal.returns-clause-ready
returns-clause-ready g c = record {
  makes = HasRow-stays _ _ _ c.in_ok-push_once.ensures.stays c.in_ok-pull_once.ensures.ready;
  puts = c.in_ok-push_once.ensures.ready;
}

pub returns-clause-wired : goal.returns-clause-wired
returns-clause-wired g c =
    let first = c.in_ok-pull_once.ensures in
    let next = c.in_ok-push_once.ensures in
    wired_then (wired_then {later = c.pull_once.new.wire} c.requires.wired first.moves first.rows first.outs first.ins)
    next.moves next.rows next.outs next.ins
