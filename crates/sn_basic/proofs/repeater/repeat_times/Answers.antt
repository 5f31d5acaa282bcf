use Rattle.std.proofs.Common.{◌≡◌, ◌+◌, ◌∙◌, ℕ, Bool, true, false, Err, ap, arith, rules}
use Rattle.sn_packet.specs.Hold.{among}
use Rattle.sn_app.specs.Apps.{repeat_one}
use Rattle.sn_app.specs.Hands.{packets_at}
use Rattle.sn_app.specs.Ports.{out_row}
use Rattle.sn_app.specs.World.{Used, nowhere}
use Rattle.sn_app.proofs.Hands.{kept_beside, sound_with}
use Rattle.sn_app.proofs.Looping.{did_as, did_gave, step_end, step_halt, step_next, step_stop}
use Rattle.sn_basic.proofs.Repeating.{repeat_same}
use Rattle.sn_basic.proofs.repeater.repeat_times.Goals as goal

pub returns-in_err-on-clause-did : goal.returns-in_err-on-clause-did
returns-in_err-on-clause-did g c =
    let u : Used = g.C.Ctx.used c.args.ctx.now in
    let from = c.args.ports.now in
    let kept = c.args.kept.now in
    let before = c.loop-turn.invariant in
    let same = repeat_same c.args.app c.args.o c.loop-turn.now kept u
    (g.C.Ctx.used c.loop-turn.ctx) before.goes.same before.goes.rows before.same in
    let e : c.from_residual.result ≡ Err c.in_err-on.field-0.0 = search rules in
    rw e (step_halt c.args.count c.loop-turn._turn
    (repeat_one c.args.app (out_row from c.args.o) (packets_at u kept)) c.loop-turn.now before.goes
    c.loop-turn-test.true (did_as same c.in_err-on.ensures.did))

pub returns-then-not-on-clause-did : goal.returns-then-not-on-clause-did
returns-then-not-on-clause-did g c =
    let u : Used = g.C.Ctx.used c.args.ctx.now in
    let from = c.args.ports.now in
    let kept = c.args.kept.now in
    let before = c.loop-turn.invariant in
    let same = repeat_same c.args.app c.args.o c.loop-turn.now kept u
    (g.C.Ctx.used c.loop-turn.ctx) before.goes.same before.goes.rows before.same in
    let gives : (c.in_ok-on.on, c.in_ok-on.later)
    ≡ (false, c.in_ok-on.later) = ap (λ (b : Bool). (b, c.in_ok-on.later)) c.if-not-on.true in
    step_stop c.args.count c.loop-turn._turn
    (repeat_one c.args.app (out_row from c.args.o) (packets_at u kept)) c.loop-turn.now before.goes
    c.in_ok-on.later c.loop-turn-test.true (did_gave gives (did_as same c.in_ok-on.ensures.did))

pub loop-turn-preserved : goal.loop-turn-preserved
loop-turn-preserved g c =
    let u : Used = g.C.Ctx.used c.args.ctx.now in
    let v : Used = g.C.Ctx.used c.loop-turn.ctx in
    let from = c.args.ports.now in
    let kept = c.args.kept.now in
    let before = c.loop-turn.invariant in
    let same = repeat_same c.args.app c.args.o c.loop-turn.now kept u v before.goes.same before.goes.rows before.same in
    let first : (p : ℕ) → among kept p ≡ nowhere p + among kept p = λ p. omega arith in
    let gives : (c.in_ok-on.on, c.in_ok-on.later)
    ≡ (true, c.in_ok-on.later) = ap (λ (b : Bool). (b, c.in_ok-on.later)) c.if-not-on.false in
    record {
      lent = c.in_ok-on.ensures.lent ∙ before.lent;
      next = c.in_ok-on.ensures.next;
      same = λ q k. kept_beside (among kept) (among kept) first before.sound c.in_ok-on.ensures.did.runs q k ∙ before.same q k;
      sound = sound_with (among kept) (among kept) (among kept) first first before.sound c.in_ok-on.ensures.did.runs;
      goes = step_next c.args.count c.loop-turn._turn
          (repeat_one c.args.app (out_row from c.args.o) (packets_at u kept)) c.loop-turn.now before.goes
          c.in_ok-on.later c.loop-turn-test.true (did_gave gives (did_as same c.in_ok-on.ensures.did));
    }

pub returns-clause-did : goal.returns-clause-did
returns-clause-did g c =
    step_end c.args.count c.loop-turn._turn
    (repeat_one c.args.app (out_row c.args.ports.now c.args.o) (packets_at (g.C.Ctx.used c.args.ctx.now) c.args.kept.now))
    c.loop-turn.now c.loop-turn.invariant.goes c.loop-turn-test.false
