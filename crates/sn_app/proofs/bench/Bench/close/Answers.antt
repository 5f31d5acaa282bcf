use Rattle.std.proofs.Common.{◌≡◌, Err, refl, sym, ◌∙◌, rules}
use Rattle.sn_app.specs.Bench.{BenchState, tray_of}
use Rattle.sn_app.specs.Gates.{working}
use Rattle.sn_app.specs.Rows.{close_lane}
use Rattle.sn_app.specs.contracts.bench.Bench.{the_view}
use Rattle.sn_app.specs.declared.halt.Halt.TheVariants.{OutOfMemory}
use Rattle.sn_app.proofs.DetachPlays.{close_goes, close_stopped}
use Rattle.sn_app.proofs.LanePlays.{lost}
use Rattle.sn_app.proofs.bench.Bench.close.Goals as goal

pub returns-in_err-reserve-clause-plays : goal.returns-in_err-reserve-clause-plays
returns-in_err-reserve-clause-plays c =
    let bench : BenchState = the_view c.self.inside in
    let is : c.from_residual.result ≡ Err OutOfMemory = search rules in
    rw (sym c.self.view_is)
    (lost bench (close_lane working c.args.lane c.args.side) c.from_residual.result bench.held c.reserve.new.self bench.lanes is)

pub returns-in-None-clause-plays : goal.returns-in-None-clause-plays
returns-in-None-clause-plays c =
    let bench : BenchState = the_view c.self.inside in
    rw (sym c.self.view_is)
    (close_stopped bench c.reserve.new.self c.reserve.ensures.past c.reserve.ensures.script c.args.lane c.args.side
    (sym c.in-None.is ∙ c.next_far.ensures))

pub returns-clause-plays : goal.returns-clause-plays
returns-clause-plays c =
    let bench : BenchState = the_view c.self.inside in
    rw (sym c.self.view_is)
    (close_goes bench c.reserve.new.self c.reserve.ensures.past c.reserve.ensures.script bench.held c.advance.new.self bench.lanes
    c.self.invariant.script c.advance.ensures.read c.args.lane c.in-Some.field-0 c.args.side (tray_of c.empty.new.self)
    c.empty.new.self.script
    c.empty.result (sym c.in-Some.is ∙ c.next_far.ensures) refl refl c.empty.ensures.plays)
