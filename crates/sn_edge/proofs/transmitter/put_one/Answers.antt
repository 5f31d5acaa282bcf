use Rattle.std.proofs.Common.{◌≡◌, ◌∙◌, ◌∷◌, [], true, false, Ok, Err, sym, subst, rules}
use Rattle.sn_packet.specs.Hold.{among}
use Rattle.sn_packet.specs.Packet.{is_worn}
use Rattle.sn_app.specs.Apps.{put_or_drop, put_packet}
use Rattle.sn_app.specs.Reader.{pure}
use Rattle.sn_app.specs.Rows.{counts}
use Rattle.sn_app.specs.Runs.{Runs}
use Rattle.sn_app.specs.World.{nowhere, packet_at, world}
use Rattle.sn_app.specs.declared.counters.Counter.TheVariants.{Dropped, Packets}
use Rattle.sn_app.proofs.Calling.{runs_count, runs_free}
use Rattle.sn_app.proofs.LaneCalls.{runs_put, runs_put_halt}
use Rattle.sn_app.proofs.Making.{runs_frees_counted}
use Rattle.sn_app.proofs.Running.{runs_bind, runs_fail, runs_pure}
use Rattle.sn_edge.proofs.transmitter.put_one.Goals as goal

pub returns-then-worn-clause-runs : goal.returns-then-worn-clause-runs
unfolding put_packet put_or_drop
returns-then-worn-clause-runs g c = λ slots h.
    let u = g.C.Ctx.used c.args.ctx.now in
    let v = g.C.Ctx.used c.free.new.self in
    let z = g.C.Ctx.used c.count.new.self in
    let place = c.args.place in
    let packet = packet_at u place in
    let worn : is_worn packet ≡ true = sym c.worn.ensures ∙ c.if-worn.true in
    subst (λ b. Runs (put_or_drop b c.args.row c.args.lane packet) (world (g.C.Ctx.tray c.args.ctx.now) u slots)
    (world (g.C.Ctx.tray c.count.new.self) z slots) (among (place ∷ [])) nowhere (Ok true)) (sym worn)
    (runs_frees_counted v z slots c.args.row Dropped packet
    (runs_free u v slots place h c.free.ensures.tray c.free.ensures.used) c.count.ensures.tray c.count.ensures.used)

pub returns-in_err-lane_put-clause-runs : goal.returns-in_err-lane_put-clause-runs
unfolding put_packet put_or_drop
returns-in_err-lane_put-clause-runs g c = λ slots h.
    let u = g.C.Ctx.used c.args.ctx.now in
    let v = g.C.Ctx.used c.lane_put.new.self in
    let row = c.args.row in
    let place = c.args.place in
    let packet = packet_at u place in
    let fresh : is_worn packet ≡ false = sym c.worn.ensures ∙ c.if-worn.false in
    let e : c.from_residual.result ≡ Err c.in_err-lane_put.field-0.0 = search rules in
    rw e (subst (λ b. Runs (put_or_drop b row c.args.lane packet) (world (g.C.Ctx.tray c.args.ctx.now) u slots)
    (world (g.C.Ctx.tray c.lane_put.new.self) v slots) (among (place ∷ [])) nowhere (Err c.in_err-lane_put.field-0.0)) (sym fresh)
    (runs_fail (λ done. pure true) nowhere (runs_fail (λ done. counts row Packets 1) nowhere
    (runs_put_halt u v slots place h c.in_err-lane_put.ensures.others c.args.lane packet nowhere
    c.in_err-lane_put.ensures.reads))))

pub returns-clause-runs : goal.returns-clause-runs
unfolding put_packet put_or_drop
returns-clause-runs g c = λ slots h.
    let u = g.C.Ctx.used c.args.ctx.now in
    let v = g.C.Ctx.used c.lane_put.new.self in
    let z = g.C.Ctx.used c.count-2.new.self in
    let row = c.args.row in
    let place = c.args.place in
    let packet = packet_at u place in
    let later = world (g.C.Ctx.tray c.count-2.new.self) z slots in
    let fresh : is_worn packet ≡ false = sym c.worn.ensures ∙ c.if-worn.false in
    subst (λ b. Runs (put_or_drop b row c.args.lane packet) (world (g.C.Ctx.tray c.args.ctx.now) u slots) later
    (among (place ∷ [])) nowhere (Ok true)) (sym fresh)
    (runs_bind (λ done. pure true) (runs_bind (λ done. counts row Packets 1)
    (runs_put u v slots place h c.in_ok-lane_put.ensures.others c.args.lane packet c.in_ok-lane_put.ensures.reads)
    (runs_count row Packets 1 v z slots nowhere c.count-2.ensures.tray c.count-2.ensures.used))
    (runs_pure true later nowhere))
