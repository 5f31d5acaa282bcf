use Rattle.std.proofs.Common.{◌≡◌, ◌-◌, length, min, Ok, Err, subst, arith, rules}
use Rattle.sn_link.specs.Link.{most_queued}
use Rattle.sn_packet.specs.Hold.{among}
use Rattle.sn_app.specs.Apps.{keep_one, keep_some, readable}
use Rattle.sn_app.specs.Hands.{DidWith, packets_at}
use Rattle.sn_app.specs.Ports.{in_row, slots_of}
use Rattle.sn_app.specs.Reader.{stepping}
use Rattle.sn_app.specs.World.{Used, desk_of, world}
use Rattle.sn_app.specs.declared.halt.Halt.TheVariants.{OutOfMemory}
use Rattle.sn_app.proofs.Handling.{readable_is}
use Rattle.sn_app.proofs.Hands.{runs_lost}
use Rattle.sn_app.proofs.Looping.{ports_same, rows_same}
use Rattle.sn_basic.proofs.Repeating.{kept_some}
use Rattle.sn_basic.proofs.repeater.keep_some.Goals as goal

pub returns-in_err-reserve-clause-did : goal.returns-in_err-reserve-clause-did
returns-in_err-reserve-clause-did g c =
    let u : Used = g.C.Ctx.used c.args.ctx.now in
    let ports = c.args.ports.now in
    let e : c.from_residual.result ≡ Err OutOfMemory = search rules in
    rw e (record {
      runs = runs_lost (keep_some (in_row ports c.args.i) (packets_at u c.args.kept.now.items))
          (world (g.C.Ctx.tray c.args.ctx.now) u (slots_of ports))
          (among c.args.kept.now.items) (among c.reserve.new.self.items);
      same = ports_same ports;
      rows = rows_same (slots_of ports);
    })

pub returns-clause-did : goal.returns-clause-did
returns-clause-did g c =
    let t = g.C.Ctx.tray c.args.ctx.now in
    let u : Used = g.C.Ctx.used c.args.ctx.now in
    let ports = c.args.ports.now in
    let before = c.args.kept.now.items in
    let after = c.take_some.new.kept.items in
    let there = readable_is {t = t} {u = u} ports c.args.i c.requires.links c.requires.i c.requires.sound in
    let count : c.lesser-count.result ≡ min (readable (in_row ports c.args.i) (desk_of (world t u (slots_of ports))))
    (most_queued - length before) =
    omega (arith, there, c.lesser-count.ensures, c.readable.ensures, c.len.ensures) in
    let taken : DidWith before after (stepping c.lesser-count.result (keep_one (in_row ports c.args.i)) (packets_at u before)) t
    t u u ports c.take_some.new.ports
    (Ok (packets_at u after)) =
    subst (λ kept. DidWith kept after (stepping c.lesser-count.result (keep_one (in_row ports c.args.i)) (packets_at u kept)) t
    t u u ports c.take_some.new.ports
    (Ok (packets_at u after))) c.in_ok-reserve.ensures.items c.take_some.ensures.did in
    kept_some u ports c.take_some.new.ports (in_row ports c.args.i) c.lesser-count.result before after count taken
