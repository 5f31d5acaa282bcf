use Rattle.std.proofs.Common.{◌≡◌, Err, rules}
use Rattle.sn_app.specs.Ports.{out_row, slots_of}
use Rattle.sn_app.specs.World.{Used}
use Rattle.sn_app.proofs.Looping.{did_still}
use Rattle.sn_basic.proofs.Repeating.{repeat_dry, repeat_halt, repeat_sent, repeat_sound}
use Rattle.sn_basic.proofs.repeater.repeat_one.Goals as goal

pub returns-in_err-copy-clause-did : goal.returns-in_err-copy-clause-did
returns-in_err-copy-clause-did g c =
    let u : Used = g.C.Ctx.used c.args.ctx.now in
    let v : Used = g.C.Ctx.used c.allocate.new.self in
    let ports = c.args.ports.now in
    let e : c.from_residual.result ≡ Err c.in_err-copy.field-0.0 = search rules in
    rw e (did_still (repeat_halt u v (slots_of ports) c.args.app
    (out_row ports c.args.o) c.args.next c.args.kept.now c.requires.next c.requires.sound
    c.in_err-copy.field-0.0 c.in_err-copy.ensures.reads c.in_err-copy.ensures.others))

pub returns-in_default-clause-did : goal.returns-in_default-clause-did
returns-in_default-clause-did g c =
    let u : Used = g.C.Ctx.used c.args.ctx.now in
    let v : Used = g.C.Ctx.used c.allocate.new.self in
    let ports = c.args.ports.now in
    did_still (repeat_dry u v (slots_of ports) c.args.app
    (out_row ports c.args.o) c.args.next c.args.kept.now c.requires.next c.requires.sound
    c.in_ok-copy.field-0 c.in_default.is c.in_ok-copy.ensures.reads c.in_ok-copy.ensures.others c.count.ensures.tray
    c.count.ensures.used)

pub send-requires-clause-sound : goal.send-requires-clause-sound
send-requires-clause-sound g c =
    let u : Used = g.C.Ctx.used c.args.ctx.now in
    let v : Used = g.C.Ctx.used c.allocate.new.self in
    let w : Used = g.C.Ctx.used c.copy.new.self in
    let ports = c.args.ports.now in
    repeat_sound u v (slots_of ports) c.args.app
    (out_row ports c.args.o) c.args.next c.args.kept.now c.requires.next c.requires.sound
    w c.in_ok-copy.field-0 c.in-Some.copy c.in-Some.is c.in_ok-copy.ensures.reads c.in_ok-copy.ensures.fresh
    c.in_ok-copy.ensures.others
    c.copy.ensures.tray c.copy.ensures.used

pub returns-clause-did : goal.returns-clause-did
returns-clause-did g c =
    let u : Used = g.C.Ctx.used c.args.ctx.now in
    let v : Used = g.C.Ctx.used c.allocate.new.self in
    let w : Used = g.C.Ctx.used c.copy.new.self in
    let ports = c.args.ports.now in
    record {
      runs = repeat_sent u v (slots_of ports) c.args.app
          (out_row ports c.args.o) c.args.next c.args.kept.now c.requires.next c.requires.sound
          w c.in_ok-copy.field-0 c.in-Some.copy c.in-Some.is c.in_ok-copy.ensures.reads c.in_ok-copy.ensures.fresh
          c.in_ok-copy.ensures.others
          c.copy.ensures.tray c.copy.ensures.used (g.C.Ctx.used c.send.new.ctx) (g.C.Ctx.used c.count-2.new.self)
          (slots_of c.send.new.ports) c.next_after.result
          c.send.ensures.runs c.count-2.ensures.tray c.count-2.ensures.used c.next_after.ensures.value;
      same = c.send.ensures.same;
      rows = c.send.ensures.rows;
    }
