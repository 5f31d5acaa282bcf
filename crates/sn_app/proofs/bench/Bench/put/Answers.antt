use Rattle.std.proofs.Common.{◌≡◌, ◌<◌, Ok, Err, is_some, sym, ap, subst, ◌∙◌, rules}
use Rattle.sn_core.specs.declared.events.Side.TheVariants.{Tx}
use Rattle.sn_packet.specs.Hold.{used_of}
use Rattle.sn_packet.specs.Packet.{PacketState}
use Rattle.sn_app.specs.Bench.{BenchState, Played, ends_of, first_of, tray_of}
use Rattle.sn_app.specs.Desk.{End, all_published, with_laid}
use Rattle.sn_app.specs.Rows.{a_put, row_put}
use Rattle.sn_app.specs.World.{packet_at}
use Rattle.sn_app.specs.contracts.bench.Bench.{the_view}
use Rattle.sn_app.specs.declared.halt.Halt.TheVariants.{OutOfMemory, Stopped}
use Rattle.sn_app.proofs.Gaining.{lifted, others_gone}
use Rattle.sn_app.proofs.LanePlays.{changed, end_now, leaves_end, leaves_ends, lost, put_done, put_stopped}
use Rattle.sn_app.proofs.OtherEnds.{laid_ends, published_ends}
use Rattle.sn_app.proofs.Playing.{is_there, isnt_there}
use Rattle.sn_app.proofs.bench.Bench.put.Goals as goal

pub returns-in_err-reserve-clause-plays : goal.returns-in_err-reserve-clause-plays
returns-in_err-reserve-clause-plays c =
    let bench : BenchState = the_view c.self.inside in
    let is : c.from_residual.result ≡ Err OutOfMemory = search rules in
    rw (sym c.self.view_is)
    (lost bench (row_put c.args.lane (packet_at (used_of bench.held) c.args.place)) c.from_residual.result bench.held
    c.reserve.new.self bench.lanes is)

pub returns-in_err-reserve_at-clause-plays : goal.returns-in_err-reserve_at-clause-plays
returns-in_err-reserve_at-clause-plays c =
    let bench : BenchState = the_view c.self.inside in
    let is : c.from_residual-in_err-reserve_at.result ≡ Err OutOfMemory = search rules in
    rw (sym c.self.view_is)
    (lost bench (row_put c.args.lane (packet_at (used_of bench.held) c.args.place)) c.from_residual-in_err-reserve_at.result
    bench.held
    c.reserve.new.self c.reserve_at.new.lanes.items is)

pub returns-in_err-reserve_at-clause-leaves : goal.returns-in_err-reserve_at-clause-leaves
returns-in_err-reserve_at-clause-leaves c =
    let bench : BenchState = the_view c.self.inside in
    rw (sym c.self.view_is)
    (leaves_ends bench c.args.lane Tx bench.held c.reserve.new.self c.reserve_at.new.lanes.items c.reserve_at.ensures.ends)

pub lay_at-requires-clause-known : goal.lay_at-requires-clause-known
lay_at-requires-clause-known c =
    let known = rw (sym c.self.view_is) at c.requires.known in
    subst (λ (ends : _). 0 < (ends c.args.lane Tx).known) (sym c.reserve_at.ensures.ends) known

pub returns-then-not-goes-clause-plays : goal.returns-then-not-goes-clause-plays
returns-then-not-goes-clause-plays c =
    let bench : BenchState = the_view c.self.inside in
    let packet : PacketState = c.lift-packet.result in
    let used = rw (sym c.self.view_is) at c.requires.place in
    let same : packet_at (used_of bench.held) c.args.place ≡ packet =
    lifted bench.held c.args.place packet used c.lift-packet.ensures.packet in
    let seen : c.packet.result.now ≡ packet = let e = sym c.packet.ensures ∙ c.lift-packet.ensures.packet in cc in
    let told = isnt_there (first_of (a_put c.args.lane packet) c.reserve.new.self.script)
    (sym c.if-not-goes.true ∙ (c.next_is_put-goes.ensures
    ∙ ap (λ p. is_some (first_of (a_put c.args.lane p) c.reserve.new.self.script)) seen)) in
    rw (sym c.self.view_is)
    (subst (λ p. Played (row_put c.args.lane p) (tray_of bench)
    (tray_of (changed bench c.lift-packet.new.self c.reserve.new.self c.lay_at.new.lanes.items))
    bench.script c.reserve.new.self.script (Err Stopped)) (sym same)
    (put_stopped bench c.reserve.new.self c.reserve.ensures.past c.reserve.ensures.script c.args.lane packet
    c.lift-packet.new.self
    c.lay_at.new.lanes.items c.lift-packet.ensures.frees
    (laid_ends c.args.lane packet (ends_of bench.lanes) c.reserve_at.ensures.ends c.lay_at.ensures.ends) told))

pub returns-then-not-goes-clause-others : goal.returns-then-not-goes-clause-others
returns-then-not-goes-clause-others c =
    rw (sym c.self.view_is)
    (others_gone (used_of c.self.inside.hold) (used_of c.lift-packet.new.self) c.args.place c.lift-packet.ensures.used)

pub returns-then-not-goes-clause-leaves : goal.returns-then-not-goes-clause-leaves
returns-then-not-goes-clause-leaves c =
    let bench : BenchState = the_view c.self.inside in
    let packet : PacketState = c.lift-packet.result in
    let end : End = with_laid packet (ends_of bench.lanes c.args.lane Tx) in
    rw (sym c.self.view_is)
    (leaves_end bench c.args.lane Tx c.lift-packet.new.self c.reserve.new.self c.lay_at.new.lanes.items end
    (laid_ends c.args.lane packet (ends_of bench.lanes) c.reserve_at.ensures.ends c.lay_at.ensures.ends))

pub returns-clause-plays : goal.returns-clause-plays
returns-clause-plays c =
    let bench : BenchState = the_view c.self.inside in
    let packet : PacketState = c.lift-packet.result in
    let used = rw (sym c.self.view_is) at c.requires.place in
    let same : packet_at (used_of bench.held) c.args.place ≡ packet =
    lifted bench.held c.args.place packet used c.lift-packet.ensures.packet in
    let seen : c.packet.result.now ≡ packet = let e = sym c.packet.ensures ∙ c.lift-packet.ensures.packet in cc in
    let told = is_there (first_of (a_put c.args.lane packet) c.reserve.new.self.script)
    (sym c.if-not-goes.false ∙ (c.next_is_put-goes.ensures
    ∙ ap (λ p. is_some (first_of (a_put c.args.lane p) c.reserve.new.self.script)) seen)) in
    rw (sym c.self.view_is)
    (subst (λ p. Played (row_put c.args.lane p) (tray_of bench)
    (tray_of (changed bench c.lift-packet.new.self c.advance.new.self c.publish_at.new.lanes.items))
    bench.script c.advance.new.self.script (Ok tt)) (sym same)
    (put_done bench c.reserve.new.self c.reserve.ensures.past c.reserve.ensures.script c.lift-packet.new.self c.advance.new.self
    c.publish_at.new.lanes.items c.self.invariant.script c.advance.ensures.read c.args.lane packet told
    c.lift-packet.ensures.frees
    (published_ends c.args.lane packet (ends_of bench.lanes) c.reserve_at.ensures.ends c.lay_at.ensures.ends
    c.publish_at.ensures.ends)))

pub returns-clause-others : goal.returns-clause-others
returns-clause-others c =
    rw (sym c.self.view_is)
    (others_gone (used_of c.self.inside.hold) (used_of c.lift-packet.new.self) c.args.place c.lift-packet.ensures.used)

pub returns-clause-known : goal.returns-clause-known
returns-clause-known c =
    let bench : BenchState = the_view c.self.inside in
    let packet : PacketState = c.lift-packet.result in
    let end : End = all_published (with_laid packet (ends_of bench.lanes c.args.lane Tx)) in
    let used = rw (sym c.self.view_is) at c.requires.place in
    let same : packet_at (used_of bench.held) c.args.place ≡ packet =
    lifted bench.held c.args.place packet used c.lift-packet.ensures.packet in
    rw (sym c.self.view_is)
    (end_now bench c.args.lane Tx c.publish_at.new.lanes.items end
    (published_ends c.args.lane packet (ends_of bench.lanes) c.reserve_at.ensures.ends c.lay_at.ensures.ends
    c.publish_at.ensures.ends)
    ∙ ap (λ p. all_published (with_laid p (ends_of bench.lanes c.args.lane Tx))) (sym same))

pub returns-clause-leaves : goal.returns-clause-leaves
returns-clause-leaves c =
    let bench : BenchState = the_view c.self.inside in
    let packet : PacketState = c.lift-packet.result in
    let end : End = all_published (with_laid packet (ends_of bench.lanes c.args.lane Tx)) in
    rw (sym c.self.view_is)
    (leaves_end bench c.args.lane Tx c.lift-packet.new.self c.advance.new.self c.publish_at.new.lanes.items end
    (published_ends c.args.lane packet (ends_of bench.lanes) c.reserve_at.ensures.ends c.lay_at.ensures.ends
    c.publish_at.ensures.ends))
