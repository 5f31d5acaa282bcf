use Rattle.std.proofs.Common.{◌≡◌, Err, refl, sym, ◌∙◌, rules}
use Rattle.sn_core.specs.declared.events.Side.TheVariants.{Rx}
use Rattle.sn_app.specs.Bench.{BenchState, ends_of}
use Rattle.sn_app.specs.Desk.{with_known}
use Rattle.sn_app.specs.Rows.{row_look}
use Rattle.sn_app.specs.contracts.bench.Bench.{the_view}
use Rattle.sn_app.specs.declared.halt.Halt.TheVariants.{OutOfMemory}
use Rattle.sn_app.proofs.LanePlays.{end_now, leaves_end, look_done, look_stopped, lost}
use Rattle.sn_app.proofs.bench.Bench.look.Goals as goal

pub returns-in_err-reserve-clause-plays : goal.returns-in_err-reserve-clause-plays
returns-in_err-reserve-clause-plays c =
    let bench : BenchState = the_view c.self.inside in
    let is : c.from_residual.result ≡ Err OutOfMemory = search rules in
    rw (sym c.self.view_is)
    (lost bench (row_look c.args.lane) c.from_residual.result bench.held c.reserve.new.self bench.lanes is)

pub returns-in_default-clause-plays : goal.returns-in_default-clause-plays
returns-in_default-clause-plays c =
    let bench : BenchState = the_view c.self.inside in
    rw (sym c.self.view_is)
    (look_stopped bench c.reserve.new.self c.reserve.ensures.past c.reserve.ensures.script c.args.lane
    (sym c.in_default.is ∙ c.next_seen.ensures))

pub returns-clause-plays : goal.returns-clause-plays
returns-clause-plays c =
    let bench : BenchState = the_view c.self.inside in
    rw (sym c.self.view_is)
    (look_done bench c.reserve.new.self c.reserve.ensures.past c.reserve.ensures.script bench.held c.advance.new.self
    c.learn_at.new.lanes.items
    c.self.invariant.script c.advance.ensures.read c.args.lane c.in-Some.seen (sym c.in-Some.is ∙ c.next_seen.ensures) refl
    c.learn_at.ensures.ends)

pub returns-clause-known : goal.returns-clause-known
returns-clause-known c =
    let bench : BenchState = the_view c.self.inside in
    rw (sym c.self.view_is)
    (end_now bench c.args.lane Rx c.learn_at.new.lanes.items (with_known c.in-Some.seen (ends_of bench.lanes c.args.lane Rx))
    c.learn_at.ensures.ends)

pub returns-clause-leaves : goal.returns-clause-leaves
returns-clause-leaves c =
    let bench : BenchState = the_view c.self.inside in
    rw (sym c.self.view_is)
    (leaves_end bench c.args.lane Rx bench.held c.advance.new.self c.learn_at.new.lanes.items
    (with_known c.in-Some.seen (ends_of bench.lanes c.args.lane Rx))
    c.learn_at.ensures.ends)
