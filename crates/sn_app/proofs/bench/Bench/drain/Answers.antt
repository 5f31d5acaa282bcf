use Rattle.std.proofs.Common.{◌≡◌, ◌++◌, ◌∷◌, [], Some, Err, refl, sym, ap, ◌∙◌, rules}
use Rattle.sn_packet.specs.Hold.{frees_of, used_of}
use Rattle.sn_packet.specs.Packet.{PacketState}
use Rattle.sn_app.specs.Bench.{BenchState}
use Rattle.sn_app.specs.Desk.{name_of, out_end}
use Rattle.sn_app.specs.Gates.{working}
use Rattle.sn_app.specs.Rows.{drain_one}
use Rattle.sn_app.specs.contracts.bench.Bench.{the_view}
use Rattle.sn_app.specs.declared.halt.Halt.TheVariants.{OutOfMemory}
use Rattle.sn_app.proofs.DetachPlays.{drain_last_done, drain_one_done, drain_stopped}
use Rattle.sn_app.proofs.LanePlays.{end_now, leaves_end, leaves_ends, lost}
use Rattle.sn_app.proofs.bench.Bench.drain.Goals as goal

pub returns-in_err-reserve-clause-plays : goal.returns-in_err-reserve-clause-plays
returns-in_err-reserve-clause-plays c =
    let bench : BenchState = the_view c.self.inside in
    let is : c.from_residual.result ≡ Err OutOfMemory = search rules in
    rw (sym c.self.view_is)
    (lost bench (drain_one working c.args.lane c.args.side) c.from_residual.result c.reserve.new.self c.self.inside.tape
    bench.lanes is)

pub returns-in_err-reserve-2-clause-plays : goal.returns-in_err-reserve-2-clause-plays
returns-in_err-reserve-2-clause-plays c =
    let bench : BenchState = the_view c.self.inside in
    let is : c.from_residual-in_err-reserve-2.result ≡ Err OutOfMemory = search rules in
    rw (sym c.self.view_is)
    (lost bench (drain_one working c.args.lane c.args.side) c.from_residual-in_err-reserve-2.result c.reserve.new.self
    c.reserve-2.new.self bench.lanes is)

pub returns-in_default-clause-plays : goal.returns-in_default-clause-plays
returns-in_default-clause-plays c =
    let bench : BenchState = the_view c.self.inside in
    rw (sym c.self.view_is)
    (drain_stopped bench c.reserve-2.new.self c.reserve-2.ensures.past c.reserve-2.ensures.script c.args.lane c.args.side
    c.reserve.new.self
    (ap frees_of c.reserve.ensures.rest) (sym c.in_default.is ∙ c.next_drained.ensures.told))

pub returns-in_err-packet-in-Some-told-clause-plays : goal.returns-in_err-packet-in-Some-told-clause-plays
returns-in_err-packet-in-Some-told-clause-plays c =
    let bench : BenchState = the_view c.self.inside in
    let is : c.from_residual-in_err-packet-in-Some-told.result ≡ Err OutOfMemory = search rules in
    rw (sym c.self.view_is)
    (lost bench (drain_one working c.args.lane c.args.side) c.from_residual-in_err-packet-in-Some-told.result c.reserve.new.self
    c.reserve-2.new.self bench.lanes is)

pub returns-in_err-packet-in-Some-told-clause-leaves : goal.returns-in_err-packet-in-Some-told-clause-leaves
returns-in_err-packet-in-Some-told-clause-leaves c =
    let bench : BenchState = the_view c.self.inside in
    rw (sym c.self.view_is) (leaves_ends bench c.args.lane c.args.side c.reserve.new.self c.reserve-2.new.self bench.lanes refl)

pub returns-in_ok-packet-in-Some-told-clause-plays : goal.returns-in_ok-packet-in-Some-told-clause-plays
returns-in_ok-packet-in-Some-told-clause-plays c =
    let bench : BenchState = the_view c.self.inside in
    let packet : PacketState = c.in_ok-packet-in-Some-told.packet in
    let named : name_of packet ≡ (c.in-Some-told.number, c.in-Some-told.turn) = ap name_of c.in_ok-packet-in-Some-told.ensures in
    let told =
    ap (λ name. Some (Some name)) named ∙ (ap (λ o. Some o) (sym c.in-Some-told.is)
    ∙ (sym c.in-Some.is ∙ c.next_drained.ensures.told)) in
    rw (sym c.self.view_is)
    (drain_one_done bench c.reserve-2.new.self c.reserve-2.ensures.past c.reserve-2.ensures.script c.lay_free.new.hold
    c.advance.new.self bench.lanes
    c.self.invariant.script c.advance.ensures.read c.args.lane c.args.side packet told
    (c.lay_free.ensures.frees ∙ ap (λ h. frees_of h ++ packet ∷ []) c.reserve.ensures.rest)
    (rw (sym c.self.view_is) at c.requires.closing) refl)

pub returns-in_ok-packet-in-Some-told-clause-used : goal.returns-in_ok-packet-in-Some-told-clause-used
returns-in_ok-packet-in-Some-told-clause-used c =
    rw (sym c.self.view_is) (c.lay_free.ensures.used ∙ ap used_of c.reserve.ensures.rest)

pub returns-in_ok-packet-in-Some-told-clause-leaves : goal.returns-in_ok-packet-in-Some-told-clause-leaves
returns-in_ok-packet-in-Some-told-clause-leaves c =
    let bench : BenchState = the_view c.self.inside in
    rw (sym c.self.view_is) (leaves_ends bench c.args.lane c.args.side c.lay_free.new.hold c.advance.new.self bench.lanes refl)

pub returns-in-None-clause-plays : goal.returns-in-None-clause-plays
returns-in-None-clause-plays c =
    let bench : BenchState = the_view c.self.inside in
    rw (sym c.self.view_is)
    (drain_last_done bench c.reserve-2.new.self c.reserve-2.ensures.past c.reserve-2.ensures.script c.reserve.new.self
    c.advance-in-None.new.self
    c.settle_at.new.lanes.items c.self.invariant.script c.advance-in-None.ensures.read c.args.lane c.args.side
    (ap (λ o. Some o) (sym c.in-None.is) ∙ (sym c.in-Some.is ∙ c.next_drained.ensures.told))
    (ap frees_of c.reserve.ensures.rest) c.settle_at.ensures.ends)

pub returns-in-None-clause-ends : goal.returns-in-None-clause-ends
returns-in-None-clause-ends c =
    let bench : BenchState = the_view c.self.inside in
    end_now bench c.args.lane c.args.side c.settle_at.new.lanes.items out_end c.settle_at.ensures.ends

pub returns-in-None-clause-leaves : goal.returns-in-None-clause-leaves
returns-in-None-clause-leaves c =
    let bench : BenchState = the_view c.self.inside in
    rw (sym c.self.view_is)
    (leaves_end bench c.args.lane c.args.side c.reserve.new.self c.advance-in-None.new.self c.settle_at.new.lanes.items out_end
    c.settle_at.ensures.ends)
