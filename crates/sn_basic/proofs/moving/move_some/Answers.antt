use Rattle.std.proofs.Common.{ap, sym, ◌∙◌, min}
use Rattle.sn_app.specs.Apps.{move_some, next_of, readable, room_on, sends_counted}
use Rattle.sn_app.specs.Ports.{in_row, out_row, slots_of}
use Rattle.sn_app.specs.Reader.{times}
use Rattle.sn_app.specs.World.{desk_of, world}
use Rattle.sn_app.proofs.Handling.{did_look, readable_is, room_is}
use Rattle.sn_app.proofs.Looping.{did_as}
use Rattle.sn_basic.proofs.moving.move_some.Goals as goal

pub returns-clause-did : goal.returns-clause-did
unfolding move_some
returns-clause-did g c =
    let ports = c.args.ports.now in
    let input = in_row ports c.args.i in
    let out = out_row ports c.args.o in
    let once = next_of input (sends_counted c.args.app out) in
    let here = readable_is {t = g.C.Ctx.tray c.args.ctx.now} {u = g.C.Ctx.used c.args.ctx.now} ports c.args.i c.requires.ready.ins c.requires.i c.requires.ready.sound in
    let there = room_is {t = g.C.Ctx.tray c.args.ctx.now} {u = g.C.Ctx.used c.args.ctx.now} ports c.args.o c.args.room c.requires.ready.outs c.requires.o c.requires.ready.sound c.requires.room in
    did_look (λ d. times (min (readable input d) (room_on out d)) once)
    (did_as
    (ap (λ n. times n once) c.lesser-most.ensures
    ∙ (ap (λ n. times (min n c.args.room) once) (c.readable-count.ensures ∙ sym here)
    ∙ ap (λ n. times (min (readable input (desk_of (world (g.C.Ctx.tray c.args.ctx.now) (g.C.Ctx.used c.args.ctx.now) (slots_of ports)))) n) once) (sym there)))
    c.handle_some.ensures.did)
