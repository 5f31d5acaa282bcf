use Rattle.std.proofs.Common.{◌≡◌, Some, Ok, Err, refl, sym, ap, subst, ◌∙◌, option_map, rules}
use Rattle.sn_core.specs.declared.events.Side.TheVariants.{Rx}
use Rattle.sn_packet.specs.Hold.{Held, frees_of, put_at, used_of}
use Rattle.sn_packet.specs.Packet.{PacketState, with_bytes}
use Rattle.sn_app.specs.Bench.{BenchState, Played, ends_of, tray_of}
use Rattle.sn_app.specs.Calls.{packet_there}
use Rattle.sn_app.specs.Desk.{End, all_released, with_taken}
use Rattle.sn_app.specs.Rows.{packet_of, row_take}
use Rattle.sn_app.specs.contracts.bench.Bench.{the_view}
use Rattle.sn_app.specs.declared.halt.Halt.TheVariants.{OutOfMemory}
use Rattle.sn_app.proofs.Gaining.{fresh_laid, others_laid, packet_laid}
use Rattle.sn_app.proofs.LanePlays.{changed, end_now, leaves_end, leaves_ends, lost, take_done, take_stopped}
use Rattle.sn_app.proofs.bench.Bench.take.Goals as goal

pub returns-in_err-reserve-clause-plays : goal.returns-in_err-reserve-clause-plays
returns-in_err-reserve-clause-plays c =
    let bench : BenchState = the_view c.self.inside in
    let is : c.from_residual.result ≡ Err OutOfMemory = search rules in
    rw (sym c.self.view_is)
    (lost bench (row_take c.args.lane) (packet_there (used_of c.reserve.new.self) c.from_residual.result) c.reserve.new.self
    c.self.inside.tape
    bench.lanes (ap (packet_there (used_of c.reserve.new.self)) is))

pub returns-in_err-reserve-2-clause-plays : goal.returns-in_err-reserve-2-clause-plays
returns-in_err-reserve-2-clause-plays c =
    let bench : BenchState = the_view c.self.inside in
    let is : c.from_residual-in_err-reserve-2.result ≡ Err OutOfMemory = search rules in
    rw (sym c.self.view_is)
    (lost bench (row_take c.args.lane) (packet_there (used_of c.reserve.new.self) c.from_residual-in_err-reserve-2.result)
    c.reserve.new.self
    c.reserve-2.new.self bench.lanes (ap (packet_there (used_of c.reserve.new.self)) is))

pub returns-in_default-clause-plays : goal.returns-in_default-clause-plays
returns-in_default-clause-plays c =
    let bench : BenchState = the_view c.self.inside in
    let none = sym (ap (option_map (λ told. packet_of told.0 told.1 told.2.now)) c.in_default.is) ∙ c.next_taken.ensures.packet in
    rw (sym c.self.view_is)
    (take_stopped bench c.reserve-2.new.self c.reserve-2.ensures.past c.reserve-2.ensures.script c.args.lane c.reserve.new.self
    (ap frees_of c.reserve.ensures.rest) none)

pub returns-in_err-packet-clause-plays : goal.returns-in_err-packet-clause-plays
returns-in_err-packet-clause-plays c =
    let bench : BenchState = the_view c.self.inside in
    let is : c.from_residual-in_err-packet.result ≡ Err OutOfMemory = search rules in
    rw (sym c.self.view_is)
    (lost bench (row_take c.args.lane) (packet_there (used_of c.reserve.new.self) c.from_residual-in_err-packet.result)
    c.reserve.new.self
    c.reserve-2.new.self bench.lanes (ap (packet_there (used_of c.reserve.new.self)) is))

pub returns-in_err-packet-clause-leaves : goal.returns-in_err-packet-clause-leaves
returns-in_err-packet-clause-leaves c =
    let bench : BenchState = the_view c.self.inside in
    rw (sym c.self.view_is) (leaves_ends bench c.args.lane Rx c.reserve.new.self c.reserve-2.new.self bench.lanes refl)

pub returns-clause-plays : goal.returns-clause-plays
returns-clause-plays c =
    let bench : BenchState = the_view c.self.inside in
    let held : Held = c.lay_filled-place.new.hold in
    let packet : PacketState = packet_of c.in-Some.number c.in-Some.turn c.in-Some.bytes.now in
    let told : Some packet ≡ _ =
    sym (ap (option_map (λ told. packet_of told.0 told.1 told.2.now)) c.in-Some.is) ∙ c.next_taken.ensures.packet in
    let used = c.lay_filled-place.ensures.used
    ∙ ap (λ (p : PacketState). put_at c.lay_filled-place.result (Some (with_bytes c.in-Some.bytes.now p))
    (used_of c.reserve.new.self)) c.in_ok-packet.ensures in
    let laid = packet_laid (used_of c.reserve.new.self) (used_of held) c.lay_filled-place.result packet used in
    rw (sym c.self.view_is)
    (subst (λ p. Played (row_take c.args.lane) (tray_of bench)
    (tray_of (changed bench held c.advance.new.self c.take_at.new.lanes.items))
    bench.script c.advance.new.self.script (Ok p)) (sym laid)
    (take_done bench c.reserve-2.new.self c.reserve-2.ensures.past c.reserve-2.ensures.script held c.advance.new.self
    c.take_at.new.lanes.items
    c.self.invariant.script c.advance.ensures.read c.args.lane packet told
    (c.lay_filled-place.ensures.frees ∙ ap frees_of c.reserve.ensures.rest) c.take_at.ensures.ends))

pub returns-clause-fresh : goal.returns-clause-fresh
returns-clause-fresh c =
    rw (sym c.self.view_is)
    (fresh_laid (used_of c.self.inside.hold) (used_of c.reserve.new.self) (used_of c.lay_filled-place.new.hold)
    c.lay_filled-place.result
    (with_bytes c.in-Some.bytes.now c.in_ok-packet.packet) (ap used_of c.reserve.ensures.rest) c.lay_filled-place.ensures.none
    c.lay_filled-place.ensures.used)

pub returns-clause-others : goal.returns-clause-others
returns-clause-others c =
    rw (sym c.self.view_is)
    (others_laid (used_of c.self.inside.hold) (used_of c.reserve.new.self) (used_of c.lay_filled-place.new.hold)
    c.lay_filled-place.result
    (with_bytes c.in-Some.bytes.now c.in_ok-packet.packet) (ap used_of c.reserve.ensures.rest) c.lay_filled-place.ensures.used)

pub returns-clause-known : goal.returns-clause-known
returns-clause-known c =
    let bench : BenchState = the_view c.self.inside in
    let end : End = all_released (with_taken (ends_of bench.lanes c.args.lane Rx)) in
    rw (sym c.self.view_is) (end_now bench c.args.lane Rx c.take_at.new.lanes.items end c.take_at.ensures.ends)

pub returns-clause-leaves : goal.returns-clause-leaves
returns-clause-leaves c =
    let bench : BenchState = the_view c.self.inside in
    let end : End = all_released (with_taken (ends_of bench.lanes c.args.lane Rx)) in
    rw (sym c.self.view_is)
    (leaves_end bench c.args.lane Rx c.lay_filled-place.new.hold c.advance.new.self c.take_at.new.lanes.items end
    c.take_at.ensures.ends)
