use Rattle.std.proofs.Common.{◌≡◌, Err, refl, rules}
use Rattle.sn_app.specs.Apps.{receive_one, sends_counted}
use Rattle.sn_app.specs.Ports.{out_row, slots_of}
use Rattle.sn_app.specs.World.{Used, nowhere, packet_at}
use Rattle.sn_app.proofs.LaneCalls.{runs_take, runs_take_halt}
use Rattle.sn_app.proofs.Looping.{did_still}
use Rattle.sn_app.proofs.Making.{runs_sends_counted}
use Rattle.sn_app.proofs.Moving.{sound_moved}
use Rattle.sn_app.proofs.Running.{runs_bind, runs_fail}
use Rattle.sn_edge.proofs.receiver.receive_one.Goals as goal

pub returns-in_err-place-clause-did : goal.returns-in_err-place-clause-did
unfolding receive_one
returns-in_err-place-clause-did g c =
    let e : c.from_residual.result ≡ Err c.in_err-place.field-0.0 = search rules in
    rw e (did_still (runs_fail (sends_counted c.args.row (out_row c.args.ports.now c.args.o)) nowhere
    (runs_take_halt (g.C.Ctx.used c.args.ctx.now) (g.C.Ctx.used c.lane_take.new.self) (slots_of c.args.ports.now) c.args.lane
    c.in_err-place.field-0.0 nowhere c.in_err-place.ensures.reads c.in_err-place.ensures.others)))

pub send-requires-clause-sound : goal.send-requires-clause-sound
send-requires-clause-sound g c =
    let v : Used = g.C.Ctx.used c.lane_take.new.self in
    let taken = runs_take (g.C.Ctx.used c.args.ctx.now) v (slots_of c.args.ports.now) c.args.lane c.in_ok-place.place
    c.requires.ready.sound c.in_ok-place.ensures.reads c.in_ok-place.ensures.fresh c.in_ok-place.ensures.others in
    sound_moved (taken.moves (packet_at v c.in_ok-place.place) refl) c.requires.ready.sound

pub returns-clause-did : goal.returns-clause-did
unfolding receive_one
returns-clause-did g c =
    let v : Used = g.C.Ctx.used c.lane_take.new.self in
    let out = out_row c.args.ports.now c.args.o in
    let taken = runs_take (g.C.Ctx.used c.args.ctx.now) v (slots_of c.args.ports.now) c.args.lane c.in_ok-place.place
    c.requires.ready.sound c.in_ok-place.ensures.reads c.in_ok-place.ensures.fresh c.in_ok-place.ensures.others in
    let run = runs_bind (sends_counted c.args.row out) taken
    (runs_sends_counted (g.C.Ctx.used c.send.new.ctx) (g.C.Ctx.used c.count.new.self) (slots_of c.send.new.ports) c.args.row out
    (packet_at v c.in_ok-place.place) c.send.ensures.runs c.count.ensures.tray c.count.ensures.used) in
    record { runs = run; same = c.send.ensures.same; rows = c.send.ensures.rows }
