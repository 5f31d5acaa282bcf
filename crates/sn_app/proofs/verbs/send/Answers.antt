use Rattle.sn_app.specs.Ports.{out_key, out_line, outs_of, slots_of}
use Rattle.sn_app.proofs.Sending.{keeps_rows_sent, line_there, runs_full, runs_sent}
use Rattle.sn_app.proofs.verbs.send.Goals as goal

pub returns-in-None-clause-runs : goal.returns-in-None-clause-runs
returns-in-None-clause-runs g c =
    let ports = c.args.ports.now in
    runs_sent (g.C.Ctx.tray c.args.ctx.now) (g.C.Ctx.used c.args.ctx.now) (slots_of ports) (slots_of c.transmit.new.self)
    (out_key ports c.args.o) (out_line ports c.args.o) (line_there (slots_of ports) (outs_of ports) c.args.o c.requires.links c.requires.o)
    c.args.place c.size-len.result c.size-len.ensures.value c.requires.sound c.transmit.ensures.slots c.in-None.ensures.back

pub returns-in-None-clause-rows : goal.returns-in-None-clause-rows
returns-in-None-clause-rows g c =
    let ports = c.args.ports.now in
    keeps_rows_sent (g.C.Ctx.tray c.args.ctx.now) (g.C.Ctx.used c.args.ctx.now) (slots_of ports) (slots_of c.transmit.new.self)
    (out_key ports c.args.o) (out_line ports c.args.o) (line_there (slots_of ports) (outs_of ports) c.args.o c.requires.links c.requires.o)
    c.args.place c.size-len.result c.size-len.ensures.value c.requires.sound c.transmit.ensures.slots

pub returns-in-Some-clause-runs : goal.returns-in-Some-clause-runs
returns-in-Some-clause-runs g c =
    let ports = c.args.ports.now in
    runs_full (g.C.Ctx.tray c.args.ctx.now) (g.C.Ctx.used c.args.ctx.now) (slots_of ports) (slots_of c.transmit.new.self)
    (out_key ports c.args.o) (out_line ports c.args.o) (line_there (slots_of ports) (outs_of ports) c.args.o c.requires.links c.requires.o)
    c.args.place c.size-len.result c.size-len.ensures.value c.requires.sound c.transmit.ensures.slots
    (g.C.Ctx.tray c.free.new.self) (g.C.Ctx.used c.free.new.self) c.in-Some.back c.in-Some.ensures.back c.free.ensures.tray c.free.ensures.used

pub returns-in-Some-clause-rows : goal.returns-in-Some-clause-rows
returns-in-Some-clause-rows g c =
    let ports = c.args.ports.now in
    keeps_rows_sent (g.C.Ctx.tray c.args.ctx.now) (g.C.Ctx.used c.args.ctx.now) (slots_of ports) (slots_of c.transmit.new.self)
    (out_key ports c.args.o) (out_line ports c.args.o) (line_there (slots_of ports) (outs_of ports) c.args.o c.requires.links c.requires.o)
    c.args.place c.size-len.result c.size-len.ensures.value c.requires.sound c.transmit.ensures.slots
