use Rattle.std.proofs.Common.{◌≡◌, ◌≢◌, ◌∙◌, ℕ, zero, suc, Bool, true, Err, min, refl, sym, ap, rules}
use Rattle.sn_app.specs.Apps.{next_of, put_packet, readable, transmit_some, transmit_where}
use Rattle.sn_app.specs.Ports.{in_row, slots_of}
use Rattle.sn_app.specs.Reader.{Meaning, pure, times, ◌>>=◌}
use Rattle.sn_app.specs.Rows.{row_room}
use Rattle.sn_app.specs.World.{nowhere, world}
use Rattle.sn_app.proofs.Leaving.{runs_kept}
use Rattle.sn_app.proofs.Handling.{did_look, readable_is}
use Rattle.sn_app.proofs.Looping.{did_as, did_still}
use Rattle.sn_app.proofs.Running.{runs_bind, runs_fail, runs_pure}
use Rattle.sn_edge.proofs.transmitter.put_readable.Goals as goal

-- as many as are readable and find room
put_as_many : (app lane input n room : ℕ) → Meaning Bool
put_as_many app lane input n room = times (min n room) (next_of input (put_packet app lane))

-- where there are none no room is asked for
none_there : (app lane input n : ℕ) → n ≡ 0 → pure true ≡ transmit_some app lane input n
unfolding transmit_some
none_there app lane input n is = sym (ap (transmit_some app lane input) is)

-- and where there are some it is
some_there : (app lane input n : ℕ) → n ≢ 0 → (row_room lane >>= put_as_many app lane input n) ≡ transmit_some app lane input n
unfolding transmit_some put_as_many
some_there app lane input zero some = absurd (some refl)
some_there app lane input (suc n) some = refl

pub returns-then-readable-eq0-clause-did : goal.returns-then-readable-eq0-clause-did
unfolding transmit_where
returns-then-readable-eq0-clause-did g c =
    let ports = c.args.ports.now in
    let input = in_row ports c.args.i in
    let here = readable_is {t = g.C.Ctx.tray c.args.ctx.now} {u = g.C.Ctx.used c.args.ctx.now} ports c.args.i
    c.requires.ready.ins c.requires.i c.requires.ready.sound in
    did_look (λ d. transmit_some c.args.row c.args.lane input (readable input d))
    (did_as (none_there c.args.row c.args.lane input _ ((here ∙ sym c.readable-readable.ensures) ∙ c.if-readable-eq0.true))
    (did_still (runs_pure true (world (g.C.Ctx.tray c.args.ctx.now) (g.C.Ctx.used c.args.ctx.now) (slots_of ports)) nowhere)))

pub returns-in_err-room-clause-did : goal.returns-in_err-room-clause-did
unfolding transmit_where
returns-in_err-room-clause-did g c =
    let ports = c.args.ports.now in
    let input = in_row ports c.args.i in
    let n = c.readable-readable.result in
    let here = readable_is {t = g.C.Ctx.tray c.args.ctx.now} {u = g.C.Ctx.used c.args.ctx.now} ports c.args.i
    c.requires.ready.ins c.requires.i c.requires.ready.sound in
    let e : c.from_residual.result ≡ Err c.in_err-room.field-0.0 = search rules in
    rw e (did_look (λ d. transmit_some c.args.row c.args.lane input (readable input d))
    (did_as (some_there c.args.row c.args.lane input n c.if-readable-eq0.false
    ∙ ap (transmit_some c.args.row c.args.lane input) (c.readable-readable.ensures ∙ sym here))
    (did_still (runs_fail (put_as_many c.args.row c.args.lane input n) nowhere
    (runs_kept (g.C.Ctx.used c.args.ctx.now) (g.C.Ctx.used c.lane_room.new.self) (slots_of ports) nowhere
    c.in_err-room.ensures.reads c.in_err-room.ensures.used)))))

pub returns-clause-did : goal.returns-clause-did
unfolding transmit_where put_as_many
returns-clause-did g c =
    let ports = c.args.ports.now in
    let input = in_row ports c.args.i in
    let n = c.readable-readable.result in
    let once = next_of input (put_packet c.args.row c.args.lane) in
    let here = readable_is {t = g.C.Ctx.tray c.args.ctx.now} {u = g.C.Ctx.used c.args.ctx.now} ports c.args.i
    c.requires.ready.ins c.requires.i c.requires.ready.sound in
    let did = did_as (ap (λ k. times k once) c.lesser_of-count.ensures.value) c.put_some.ensures.did in
    did_look (λ d. transmit_some c.args.row c.args.lane input (readable input d))
    (did_as (some_there c.args.row c.args.lane input n c.if-readable-eq0.false
    ∙ ap (transmit_some c.args.row c.args.lane input) (c.readable-readable.ensures ∙ sym here))
    (record {
      runs = runs_bind (put_as_many c.args.row c.args.lane input n)
          (runs_kept (g.C.Ctx.used c.args.ctx.now) (g.C.Ctx.used c.lane_room.new.self) (slots_of ports) nowhere
          c.in_ok-room.ensures.reads c.in_ok-room.ensures.used)
          did.runs;
      same = did.same;
      rows = did.rows;
    }))
