use Rattle.std.proofs.Common.{◌≡◌, ◌∷◌, true, [], Ok, Err, sym, subst, arith, rules}
use Rattle.sn_packet.specs.Hold.{among}
use Rattle.sn_app.specs.Apps.{readable, tee_sends}
use Rattle.sn_app.specs.Hands.{DidWith, names_at}
use Rattle.sn_app.specs.Ports.{in_row, out_ports, slots_of}
use Rattle.sn_app.specs.World.{IsSound, Used, desk_of, packet_at, world}
use Rattle.sn_app.proofs.Handling.{readable_is, sound_without}
use Rattle.sn_app.proofs.Hands.{leads_done, nothing_taken, with_stays}
use Rattle.sn_app.proofs.Looping.{did_still, out_ports_kept, ports_then, rows_then}
use Rattle.sn_app.proofs.Readings.{stays_then}
use Rattle.sn_basic.specs.Counts.{HasRow-stays}
use Rattle.sn_basic.proofs.Copies.{one_after, one_dry, one_halt, one_leads, packet_copied, taken_sound}
use Rattle.sn_basic.proofs.tee.copy_one.Goals as goal

pub returns-in_err-gather-clause-did : goal.returns-in_err-gather-clause-did
returns-in_err-gather-clause-did g c =
    let ports = c.args.ports.now in
    let input = in_row ports c.args.i in
    let e : c.from_residual.result ≡ Err c.in_err-gather.field-0.0 = search rules in
    rw e (did_still (one_halt c.args.app input (out_ports ports)
    (c.in_err-gather.ensures.gathered (one_after c.args.app input (out_ports ports)))))

pub returns-then-not-branch-clause-did : goal.returns-then-not-branch-clause-did
returns-then-not-branch-clause-did g c =
    let ports = c.args.ports.now in
    let input = in_row ports c.args.i in
    did_still (one_dry c.args.app input (out_ports ports) c.in_ok-gather.field-0 c.if-not-branch.true
    (c.in_ok-gather.ensures.gathered (one_after c.args.app input (out_ports ports))))

pub take-requires-clause-sound : goal.take-requires-clause-sound
take-requires-clause-sound g c =
    let ports = c.args.ports.now in
    let input = in_row ports c.args.i in
    sound_without (one_leads c.args.app input (out_ports ports) c.in_ok-gather.field-0 c.if-not-branch.false
    (c.in_ok-gather.ensures.gathered (one_after c.args.app input (out_ports ports)))).sound

pub unreachable-requires : goal.unreachable-requires
unreachable-requires g c =
    let ports = c.args.ports.now in
    let input = in_row ports c.args.i in
    let u : Used = g.C.Ctx.used c.gather.new.ctx in
    let leads = one_leads c.args.app input (out_ports ports) c.in_ok-gather.field-0 c.if-not-branch.false
    (c.in_ok-gather.ensures.gathered (one_after c.args.app input (out_ports ports))) in
    let none : readable input (desk_of (world (g.C.Ctx.tray c.gather.new.ctx) u (slots_of ports)))
    ≡ 0 = nothing_taken input u c.take.result c.in_default.is c.take.ensures.runs in
    let some = readable_is {t = g.C.Ctx.tray c.gather.new.ctx} {u = u} ports c.args.i c.requires.ready.ins c.requires.i
    leads.sound in
    absurd (omega (arith, none, some, c.requires.next))

pub send_copies-requires-clause-sound : goal.send_copies-requires-clause-sound
send_copies-requires-clause-sound g c =
    let ports = c.args.ports.now in
    let input = in_row ports c.args.i in
    let t = g.C.Ctx.tray c.gather.new.ctx in
    let u : Used = g.C.Ctx.used c.gather.new.ctx in
    let leads = one_leads c.args.app input (out_ports ports) c.in_ok-gather.field-0 c.if-not-branch.false
    (c.in_ok-gather.ensures.gathered (one_after c.args.app input (out_ports ports))) in
    subst (λ copies. IsSound (world t u (slots_of c.take.new.ports)) (among (c.in-Some.place ∷ copies)))
    (sym c.as_slice.ensures.value)
    (taken_sound u ports c.take.new.ports input c.in-Some.place c.gather.new.copies.items c.take.result c.in-Some.is
    c.take.ensures.runs leads.sound)

pub count-requires : goal.count-requires
count-requires g c =
    let ports = c.args.ports.now in
    let input = in_row ports c.args.i in
    let leads = one_leads c.args.app input (out_ports ports) c.in_ok-gather.field-0 c.if-not-branch.false
    (c.in_ok-gather.ensures.gathered (one_after c.args.app input (out_ports ports))) in
    HasRow-stays c.args.app (g.C.Ctx.tray c.args.ctx.now) (g.C.Ctx.tray c.send_copies.new.ctx)
    (stays_then leads.stays (with_stays c.send_copies.ensures.did)) c.requires.ready.counts

pub returns-clause-did : goal.returns-clause-did
returns-clause-did g c =
    let ports = c.args.ports.now in
    let mid = c.take.new.ports in
    let to = c.send_copies.new.ports in
    let input = in_row ports c.args.i in
    let outs = out_ports ports in
    let place = c.in-Some.place in
    let copies = c.gather.new.copies.items in
    let t = g.C.Ctx.tray c.gather.new.ctx in
    let u : Used = g.C.Ctx.used c.gather.new.ctx in
    let s = g.C.Ctx.tray c.send_copies.new.ctx in
    let v : Used = g.C.Ctx.used c.send_copies.new.ctx in
    let leads = one_leads c.args.app input outs c.in_ok-gather.field-0 c.if-not-branch.false
    (c.in_ok-gather.ensures.gathered (one_after c.args.app input outs)) in
    let did : DidWith (place ∷ copies) [] (tee_sends (names_at u copies) (packet_at u place) outs) t s u v mid to (Ok true) =
    subst (λ ports. DidWith (place ∷ copies) [] (tee_sends (names_at u copies) (packet_at u place) ports) t s u v mid to
    (Ok true))
    (out_ports_kept c.take.ensures.same c.take.ensures.rows)
    (subst (λ xs. DidWith (place ∷ xs) [] (tee_sends (names_at u xs) (packet_at u place) (out_ports mid)) t s u v mid to
    (Ok true)) c.as_slice.ensures.value c.send_copies.ensures.did) in
    record {
      runs = leads_done leads
          (packet_copied u v (g.C.Ctx.used c.count.new.self) ports mid to c.args.app input place outs copies c.take.result
          c.in-Some.is c.take.ensures.runs did
          c.count.ensures.tray c.count.ensures.used);
      same = ports_then c.take.ensures.same did.same;
      rows = rows_then c.take.ensures.rows did.rows;
    }
