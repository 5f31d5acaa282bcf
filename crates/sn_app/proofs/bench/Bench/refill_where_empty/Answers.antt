use Rattle.std.proofs.Common.{◌≤◌, arith, length, sym}
use Rattle.sn_app.specs.Bench.{tray_of}
use Rattle.sn_app.proofs.Claiming.{refill_full, refill_unneeded}
use Rattle.sn_app.proofs.BenchFields.{state_of}
use Rattle.sn_app.proofs.bench.Bench.refill_where_empty.Goals as goal

pub returns-then-frees-gt0-clause-reads : goal.returns-then-frees-gt0-clause-reads
returns-then-frees-gt0-clause-reads c =
    let b = c.self.inside in
    rw (sym c.self.view_is)
    (refill_unneeded (tray_of (state_of b)) b.hold
    (omega (arith, c.if-frees-gt0.true, c.frees.ensures)))

pub returns-clause-reads : goal.returns-clause-reads
returns-clause-reads c =
    let none : length c.args.self.now.held.free ≤ 0 =
    rw (sym c.self.view_is) (omega (arith, c.if-frees-gt0.false, c.frees.ensures)) in
    refill_full c.args.self.now.held none c.refill.ensures.reads
