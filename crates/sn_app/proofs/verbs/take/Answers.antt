use Rattle.std.proofs.Common.{sym, subst, IfSome, IsSome}
use Rattle.sn_app.specs.Ports.{in_key, in_line, ins_of, slots_of}
use Rattle.sn_app.proofs.Sending.{front_used, keeps_rows_taken, line_there, runs_taken}
use Rattle.sn_app.proofs.verbs.take.Goals as goal

pub returns-clause-runs : goal.returns-clause-runs
returns-clause-runs g c =
    let ports = c.args.ports.now in
    runs_taken (slots_of ports) (slots_of c.receive.new.self) (in_key ports c.args.i) (in_line ports c.args.i)
    (line_there (slots_of ports) (ins_of ports) c.args.i c.requires.links c.requires.i) c.receive.ensures.slots
    (g.C.Ctx.tray c.args.ctx.now) (g.C.Ctx.used c.args.ctx.now) c.receive.result c.requires.sound c.receive.ensures.place

pub returns-clause-in_use : goal.returns-clause-in_use
returns-clause-in_use g c =
    let ports = c.args.ports.now in
    subst (λ r. IfSome r (λ place. IsSome (g.C.Ctx.used c.args.ctx.now place))) (sym c.receive.ensures.place)
    (front_used (g.C.Ctx.tray c.args.ctx.now) (g.C.Ctx.used c.args.ctx.now) (slots_of ports) (in_key ports c.args.i) (in_line ports c.args.i)
    (line_there (slots_of ports) (ins_of ports) c.args.i c.requires.links c.requires.i) c.requires.sound)

pub returns-clause-rows : goal.returns-clause-rows
returns-clause-rows g c =
    let ports = c.args.ports.now in
    keeps_rows_taken (slots_of ports) (slots_of c.receive.new.self) (in_key ports c.args.i) (in_line ports c.args.i)
    (line_there (slots_of ports) (ins_of ports) c.args.i c.requires.links c.requires.i) c.receive.ensures.slots
