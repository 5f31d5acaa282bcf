use Rattle.std.proofs.Common.{◌≡◌, ◌∷◌, ℕ, false, true, List, Err, ap, subst, sym, rules}
use Rattle.sn_pcap.specs.Places.{payload_of, payloads_at}
use Rattle.sn_app.specs.Apps.{read_record, read_with}
use Rattle.sn_app.specs.Calls.{rewritten_at}
use Rattle.sn_app.specs.Desk.{capture_at}
use Rattle.sn_app.specs.Ports.{out_row, slots_of}
use Rattle.sn_app.specs.Reader.{pure}
use Rattle.sn_app.specs.World.{Used, nowhere, world}
use Rattle.sn_app.proofs.Calling.{runs_allocate_err, runs_allocate_none}
use Rattle.sn_app.proofs.Looping.{did_gave, did_still}
use Rattle.sn_app.proofs.Making.{made_runs, made_sent, made_sound, runs_runs_dry, runs_sends_counted}
use Rattle.sn_app.proofs.Running.{runs_bind, runs_fail, runs_pure}
use Rattle.sn_edge.specs.Needs.{capture_kept}
use Rattle.sn_edge.proofs.Records.{runs_none_left, runs_oversize, runs_record}
use Rattle.sn_edge.proofs.pcap_reader.read_next.Goals as goal

pub returns-in_default-clause-did : goal.returns-in_default-clause-did
returns-in_default-clause-did g c =
    did_still (runs_none_left (capture_at c.args.capture (g.C.Ctx.tray c.args.ctx.now)) c.args.at c.args.row
    (out_row c.args.ports.now c.args.o)
    (world (g.C.Ctx.tray c.args.ctx.now) (g.C.Ctx.used c.args.ctx.now)
    (slots_of c.args.ports.now)) nowhere c.in_default.ensures.end)

pub returns-then-found-clause-did : goal.returns-then-found-clause-did
returns-then-found-clause-did g c =
    did_still (runs_oversize (capture_at c.args.capture (g.C.Ctx.tray c.args.ctx.now)) c.args.at c.args.row
    (out_row c.args.ports.now c.args.o) c.in-Some.found c.in-Some.ensures.found
    (g.C.Ctx.used c.args.ctx.now) (g.C.Ctx.used c.count.new.self) (slots_of c.args.ports.now) nowhere c.if-found.true
    c.count.ensures.tray c.count.ensures.used)

pub returns-in_err-place-clause-did : goal.returns-in_err-place-clause-did
unfolding read_record
returns-in_err-place-clause-did g c =
    let bytes = capture_at c.args.capture (g.C.Ctx.tray c.args.ctx.now) in
    let found = c.in-Some.found in
    let out = out_row c.args.ports.now c.args.o in
    let e : c.from_residual.result ≡ Err c.in_err-place.field-0.0 = search rules in
    rw e (did_still (runs_record bytes c.args.at c.args.row out found c.in-Some.ensures.found false c.if-found.false
    (runs_fail (read_with c.args.row out (payload_of bytes found) (payloads_at bytes found.next)) nowhere
    (runs_allocate_err (g.C.Ctx.used c.args.ctx.now) (g.C.Ctx.used c.allocate.new.self) (slots_of c.args.ports.now) nowhere
    c.requires.ready.sound c.in_err-place.field-0.0 nowhere c.in_err-place.ensures.reads c.in_err-place.ensures.others))))

pub returns-in_default-2-clause-did : goal.returns-in_default-2-clause-did
unfolding read_record read_with
returns-in_default-2-clause-did g c =
    let bytes = capture_at c.args.capture (g.C.Ctx.tray c.args.ctx.now) in
    let found = c.in-Some.found in
    let out = out_row c.args.ports.now c.args.o in
    let u : Used = g.C.Ctx.used c.args.ctx.now in
    let v : Used = g.C.Ctx.used c.allocate.new.self in
    let z : Used = g.C.Ctx.used c.count-in_default-2.new.self in
    let slots = slots_of c.args.ports.now in
    let payload = payload_of bytes found in
    let rest = payloads_at bytes found.next in
    did_gave (ap (λ (left : List (List ℕ)). (false, left)) (sym c.in-Some.ensures.found.first))
    (did_still (runs_record bytes c.args.at c.args.row out found c.in-Some.ensures.found false c.if-found.false
    (runs_bind (read_with c.args.row out payload rest)
    (runs_allocate_none u v slots nowhere c.requires.ready.sound c.in_ok-place.field-0 c.in_default-2.is
    c.in_ok-place.ensures.reads
    c.in_ok-place.ensures.others)
    (runs_bind (λ on. pure (on, payload ∷ rest))
    (runs_runs_dry v z slots nowhere c.args.row c.count-in_default-2.ensures.tray c.count-in_default-2.ensures.used)
    (runs_pure (false, payload ∷ rest) (world (g.C.Ctx.tray c.count-in_default-2.new.self) z slots) nowhere)))))

pub send-requires-clause-sound : goal.send-requires-clause-sound
send-requires-clause-sound g c =
    made_sound (g.C.Ctx.used c.args.ctx.now) (g.C.Ctx.used c.allocate.new.self) (g.C.Ctx.used c.load.new.self)
    (slots_of c.args.ports.now) c.requires.ready.sound c.in_ok-place.field-0 c.in-Some-2.place
    (payload_of (capture_at c.args.capture (g.C.Ctx.tray c.allocate.new.self)) c.in-Some.found) c.in-Some-2.is
    c.in_ok-place.ensures.reads c.in_ok-place.ensures.fresh c.in_ok-place.ensures.others c.load.ensures.tray c.load.ensures.used

pub returns-clause-did : goal.returns-clause-did
unfolding read_record read_with
returns-clause-did g c =
    let bytes = capture_at c.args.capture (g.C.Ctx.tray c.args.ctx.now) in
    let found = c.in-Some.found in
    let out = out_row c.args.ports.now c.args.o in
    let u : Used = g.C.Ctx.used c.args.ctx.now in
    let v : Used = g.C.Ctx.used c.allocate.new.self in
    let w : Used = g.C.Ctx.used c.load.new.self in
    let z : Used = g.C.Ctx.used c.count-2.new.self in
    let slots = slots_of c.args.ports.now in
    let place = c.in-Some-2.place in
    let payload = payload_of bytes found in
    let rest = payloads_at bytes found.next in
    let loaded : w ≡ rewritten_at place payload v =
    subst (λ b. w ≡ rewritten_at place (payload_of b found) v)
    (capture_kept c.args.capture (g.C.Ctx.tray c.args.ctx.now)
    (g.C.Ctx.tray c.allocate.new.self) c.in_ok-place.ensures.leaves.constants)
    c.load.ensures.used in
    let run = runs_record bytes c.args.at c.args.row out found c.in-Some.ensures.found false c.if-found.false
    (runs_bind (read_with c.args.row out payload rest)
    (made_runs u v w slots c.requires.ready.sound c.in_ok-place.field-0 place payload c.in-Some-2.is
    c.in_ok-place.ensures.reads c.in_ok-place.ensures.fresh c.in_ok-place.ensures.others c.load.ensures.tray loaded)
    (runs_bind (λ on. pure (on, rest))
    (runs_sends_counted (g.C.Ctx.used c.send.new.ctx) z (slots_of c.send.new.ports) c.args.row out _
    (made_sent u v w slots c.requires.ready.sound c.in_ok-place.field-0 place payload c.in-Some-2.is
    c.in_ok-place.ensures.reads c.in_ok-place.ensures.fresh c.in_ok-place.ensures.others c.load.ensures.tray loaded out
    c.send.ensures.runs)
    c.count-2.ensures.tray c.count-2.ensures.used)
    (runs_pure (true, rest) (world (g.C.Ctx.tray c.count-2.new.self) z (slots_of c.send.new.ports)) nowhere))) in
    record { runs = run; same = c.send.ensures.same; rows = c.send.ensures.rows }
