use Rattle.std.proofs.Common.{◌≡◌, ◌+◌, ◌<◌, ◌∷◌, ◌∙◌, ℕ, [], drop, get_or, length, Option, ap, sym, subst, unwrap_or, arith}
use Rattle.sn_packet.specs.Hold.{among}
use Rattle.sn_packet.specs.Packet.{PacketState, no_packet}
use Rattle.sn_app.specs.Apps.{tee_sends}
use Rattle.sn_app.specs.Hands.{names_at}
use Rattle.sn_app.specs.Loops.{Goes}
use Rattle.sn_app.specs.Ports.{Port, out_ports, out_row, outs_of, slots_of}
use Rattle.sn_app.specs.World.{IsSound, Used, World, packet_at, world}
use Rattle.sn_app.proofs.Hands.{among_here, drop_next, drop_past}
use Rattle.sn_app.proofs.Looping.{out_row_kept, outputs_count, ports_then, row_at_place, rows_then}
use Rattle.sn_basic.proofs.Copies.{copy_sound, sent_last, sent_next, sent_same}
use Rattle.sn_basic.proofs.tee.send_copies.Goals as goal

pub send-requires-clause-sound : goal.send-requires-clause-sound
send-requires-clause-sound g c =
    let copies = c.args.copies.now in
    let place = c.args.place in
    let o = c.loop-o.o in
    let slots = slots_of c.loop-o.ports in
    let u : Used = g.C.Ctx.used c.loop-o.ctx in
    let w : Used = g.C.Ctx.used c.copy.new.self in
    let sound : IsSound (world (g.C.Ctx.tray c.loop-o.ctx) u slots) (among (place ∷ get_or copies o 0 ∷ drop (o + 1) copies)) =
    subst (λ left. IsSound (world (g.C.Ctx.tray c.loop-o.ctx) u slots) (among (place ∷ left)))
    (drop_next copies o 0 c.loop-o-test.true) c.loop-o.invariant.goes.sound in
    copy_sound u w slots place (get_or copies o 0) (drop (o + 1) copies) sound c.copy.ensures.tray c.copy.ensures.used

pub loop-o-preserved : goal.loop-o-preserved
loop-o-preserved g c =
    let copies = c.args.copies.now in
    let place = c.args.place in
    let o = c.loop-o.o in
    let from = c.args.ports.now in
    let to = c.loop-o.ports in
    let outs = out_ports from in
    let start : Used = g.C.Ctx.used c.args.ctx.now in
    let t = g.C.Ctx.tray c.loop-o.ctx in
    let u : Used = g.C.Ctx.used c.loop-o.ctx in
    let w : Used = g.C.Ctx.used c.copy.new.self in
    let v : Used = g.C.Ctx.used c.send.new.ctx in
    let copy = get_or copies o 0 in
    let more = drop (o + 1) copies in
    let port : Port = get_or outs o ([], 0) in
    let ports = drop (o + 1) outs in
    let kept = c.loop-o.invariant.goes in
    let is : drop o copies ≡ copy ∷ more = drop_next copies o 0 c.loop-o-test.true in
    let within : o < length (outs_of from) = omega (arith, c.loop-o-test.true, c.requires.count) in
    let is_out : drop o outs ≡ port ∷ ports = drop_next outs o ([], 0) (omega (arith, within, outputs_count from)) in
    let at : out_row to o ≡ port.1 = out_row_kept kept.same kept.rows o
    ∙ sym (row_at_place (slots_of from) (outs_of from) o within) in
    let same : (q : ℕ) → 0 < among (place ∷ copy ∷ more) q → u q ≡ start q =
    subst (λ left. (q : ℕ) → 0 < among (place ∷ left) q → u q ≡ start q) is c.loop-o.invariant.same in
    let begin : World = world (g.C.Ctx.tray c.args.ctx.now) start (slots_of from) in
    let goes : Goes (tee_sends (names_at start (copy ∷ more)) (packet_at start place) (port ∷ ports))
    (tee_sends (names_at start copies) (packet_at start place) outs)
    begin (world t u (slots_of to)) (among (place ∷ copies)) (among (place ∷ copy ∷ more)) from to =
    subst (λ left. Goes (tee_sends (names_at start (copy ∷ more)) (packet_at start place) left)
    (tee_sends (names_at start copies) (packet_at start place) outs)
    begin (world t u (slots_of to)) (among (place ∷ copies)) (among (place ∷ copy ∷ more)) from to) is_out
    (subst (λ left. Goes (tee_sends (names_at start left) (packet_at start place) (drop o outs))
    (tee_sends (names_at start copies) (packet_at start place) outs)
    begin (world t u (slots_of to)) (among (place ∷ copies)) (among (place ∷ left)) from to) is kept) in
    record {
      lent = c.send.ensures.lent ∙ (c.copy.ensures.lent ∙ c.loop-o.invariant.lent);
      same = sent_same start u w v to c.send.new.ports place copy
          (out_row to o) more port ports goes.sound same c.copy.ensures.tray c.copy.ensures.used c.send.ensures.runs;
      goes = sent_next start u w v to c.send.new.ports place copy
          (out_row to o) more port ports goes.sound same c.copy.ensures.tray c.copy.ensures.used c.send.ensures.runs
          at c.send.ensures.same c.send.ensures.rows goes;
    }

pub returns-clause-did : goal.returns-clause-did
returns-clause-did g c =
    let copies = c.args.copies.now in
    let place = c.args.place in
    let o = c.loop-o.o in
    let from = c.args.ports.now in
    let to = c.loop-o.ports in
    let outs = out_ports from in
    let start : Used = g.C.Ctx.used c.args.ctx.now in
    let t = g.C.Ctx.tray c.loop-o.ctx in
    let u : Used = g.C.Ctx.used c.loop-o.ctx in
    let v : Used = g.C.Ctx.used c.send-2.new.ctx in
    let port : Port = get_or outs o ([], 0) in
    let ports = drop (o + 1) outs in
    let kept = c.loop-o.invariant.goes in
    let is : drop o copies ≡ [] = drop_past copies o c.loop-o-test.false in
    let last : o ≡ length copies = omega (arith, c.loop-o-test.false, c.loop-o.auto.o-end) in
    let within : o < length (outs_of from) = omega (arith, last, c.requires.count) in
    let is_out : drop o outs ≡ port ∷ ports = drop_next outs o ([], 0) (omega (arith, within, outputs_count from)) in
    let at : out_row to (length copies) ≡ port.1 = ap (out_row to) (sym last)
    ∙ (out_row_kept kept.same kept.rows o ∙ sym (row_at_place (slots_of from) (outs_of from) o within)) in
    let begin : World = world (g.C.Ctx.tray c.args.ctx.now) start (slots_of from) in
    let goes : Goes (tee_sends [] (packet_at start place) (port ∷ ports))
    (tee_sends (names_at start copies) (packet_at start place) outs)
    begin (world t u (slots_of to)) (among (place ∷ copies)) (among (place ∷ [])) from to =
    subst (λ left. Goes (tee_sends [] (packet_at start place) left)
    (tee_sends (names_at start copies) (packet_at start place) outs)
    begin (world t u (slots_of to)) (among (place ∷ copies)) (among (place ∷ [])) from to) is_out
    (subst (λ left. Goes (tee_sends (names_at start left) (packet_at start place) (drop o outs))
    (tee_sends (names_at start copies) (packet_at start place) outs)
    begin (world t u (slots_of to)) (among (place ∷ copies)) (among (place ∷ left)) from to) is kept) in
    let packet : packet_at u place ≡ packet_at start place =
    ap (λ (slot : Option PacketState). unwrap_or slot no_packet)
    (c.loop-o.invariant.same place (omega (arith, among_here place (drop o copies)))) in
    record {
      runs = sent_last start u v to c.send-2.new.ports place
          (out_row to (length copies)) port ports packet at goes c.send-2.ensures.runs;
      same = ports_then kept.same c.send-2.ensures.same;
      rows = rows_then kept.rows c.send-2.ensures.rows;
    }
