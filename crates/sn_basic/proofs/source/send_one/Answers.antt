use Rattle.std.proofs.Common.{◌≡◌, Err, replicate, rules}
use Rattle.sn_app.specs.Apps.{source_one, source_with}
use Rattle.sn_app.specs.Ports.{out_row, slots_of}
use Rattle.sn_app.specs.World.{Used, nowhere}
use Rattle.sn_app.proofs.Calling.{runs_allocate_err, runs_allocate_none}
use Rattle.sn_app.proofs.Looping.{did_still}
use Rattle.sn_app.proofs.Making.{made_runs, made_sent, made_sound, runs_runs_dry, runs_sends_counted}
use Rattle.sn_app.proofs.Running.{runs_bind, runs_fail}
use Rattle.sn_basic.proofs.source.send_one.Goals as goal

pub returns-in_err-place-clause-did : goal.returns-in_err-place-clause-did
unfolding source_one
returns-in_err-place-clause-did g c =
    let e : c.from_residual.result ≡ Err c.in_err-place.field-0.0 = search rules in
    rw e (did_still (runs_fail (source_with c.args.row c.args.size (out_row c.args.ports.now c.args.o)) nowhere
    (runs_allocate_err (g.C.Ctx.used c.args.ctx.now) (g.C.Ctx.used c.allocate.new.self) (slots_of c.args.ports.now) nowhere c.requires.ready.sound
    c.in_err-place.field-0.0 nowhere c.in_err-place.ensures.reads c.in_err-place.ensures.others)))

pub returns-in_default-clause-did : goal.returns-in_default-clause-did
unfolding source_one source_with
returns-in_default-clause-did g c =
    let u : Used = g.C.Ctx.used c.args.ctx.now in
    let v : Used = g.C.Ctx.used c.allocate.new.self in
    let slots = slots_of c.args.ports.now in
    did_still (runs_bind (source_with c.args.row c.args.size (out_row c.args.ports.now c.args.o))
    (runs_allocate_none u v slots nowhere c.requires.ready.sound c.in_ok-place.field-0 c.in_default.is c.in_ok-place.ensures.reads c.in_ok-place.ensures.others)
    (runs_runs_dry v (g.C.Ctx.used c.count.new.self) slots nowhere c.args.row c.count.ensures.tray c.count.ensures.used))

pub send-requires-clause-sound : goal.send-requires-clause-sound
send-requires-clause-sound g c =
    made_sound (g.C.Ctx.used c.args.ctx.now) (g.C.Ctx.used c.allocate.new.self) (g.C.Ctx.used c.zeros.new.self) (slots_of c.args.ports.now) c.requires.ready.sound
    c.in_ok-place.field-0 c.in-Some.place (replicate c.args.size 0) c.in-Some.is c.in_ok-place.ensures.reads c.in_ok-place.ensures.fresh
    c.in_ok-place.ensures.others c.zeros.ensures.tray c.zeros.ensures.used

pub returns-clause-did : goal.returns-clause-did
unfolding source_one source_with
returns-clause-did g c =
    let u : Used = g.C.Ctx.used c.args.ctx.now in
    let v : Used = g.C.Ctx.used c.allocate.new.self in
    let w : Used = g.C.Ctx.used c.zeros.new.self in
    let slots = slots_of c.args.ports.now in
    let row = c.args.row in
    let out = out_row c.args.ports.now c.args.o in
    let run = runs_bind (source_with row c.args.size out)
    (made_runs u v w slots c.requires.ready.sound c.in_ok-place.field-0 c.in-Some.place (replicate c.args.size 0) c.in-Some.is
    c.in_ok-place.ensures.reads c.in_ok-place.ensures.fresh c.in_ok-place.ensures.others c.zeros.ensures.tray c.zeros.ensures.used)
    (runs_sends_counted (g.C.Ctx.used c.send.new.ctx) (g.C.Ctx.used c.count-2.new.self) (slots_of c.send.new.ports) row out _
    (made_sent u v w slots c.requires.ready.sound c.in_ok-place.field-0 c.in-Some.place (replicate c.args.size 0) c.in-Some.is
    c.in_ok-place.ensures.reads c.in_ok-place.ensures.fresh c.in_ok-place.ensures.others c.zeros.ensures.tray c.zeros.ensures.used out c.send.ensures.runs)
    c.count-2.ensures.tray c.count-2.ensures.used) in
    record { runs = run; same = c.send.ensures.same; rows = c.send.ensures.rows }
