use Rattle.std.proofs.Common.{◌≡◌, ◌∙◌, Bool, Ok, Err, ap, subst, rules}
use Rattle.sn_pcap.specs.Places.{IsPlace, payloads_at}
use Rattle.sn_app.specs.Apps.{read_one}
use Rattle.sn_app.specs.Desk.{capture_at}
use Rattle.sn_app.specs.Ports.{out_row}
use Rattle.sn_app.proofs.Looping.{did_as, did_gave, out_row_kept, step_end, step_halt, step_next, step_stop}
use Rattle.sn_edge.specs.Needs.{capture_kept}
use Rattle.sn_edge.proofs.Records.{did_over}
use Rattle.sn_edge.proofs.pcap_reader.read_some.Goals as goal

pub returns-in_err-on-clause-did : goal.returns-in_err-on-clause-did
returns-in_err-on-clause-did g c =
    let kept = c.loop-turn.invariant.goes in
    let first = capture_at c.args.capture (g.C.Ctx.tray c.args.ctx.now) in
    let later = capture_at c.args.capture (g.C.Ctx.tray c.loop-turn.ctx) in
    let same = capture_kept c.args.capture (g.C.Ctx.tray c.args.ctx.now) (g.C.Ctx.tray c.loop-turn.ctx) kept.stays.constants in
    let once = read_one c.args.row (out_row c.args.ports.now c.args.o) in
    let did = did_over (read_one c.args.row (out_row c.loop-turn.ports c.args.o)) c.loop-turn.now (Err c.in_err-on.field-0.0)
    later first same c.in_err-on.ensures.did in
    let e : c.from_residual.result ≡ Err c.in_err-on.field-0.0 = search rules in
    rw e (step_halt 102 c.loop-turn._turn once (payloads_at first c.loop-turn.now) kept c.loop-turn-test.true
    (did_as (ap (λ out. read_one c.args.row out (payloads_at first c.loop-turn.now))
    (out_row_kept kept.same kept.rows c.args.o)) did))

pub returns-then-not-on-clause-did : goal.returns-then-not-on-clause-did
returns-then-not-on-clause-did g c =
    let kept = c.loop-turn.invariant.goes in
    let first = capture_at c.args.capture (g.C.Ctx.tray c.args.ctx.now) in
    let later = capture_at c.args.capture (g.C.Ctx.tray c.loop-turn.ctx) in
    let same = capture_kept c.args.capture (g.C.Ctx.tray c.args.ctx.now) (g.C.Ctx.tray c.loop-turn.ctx) kept.stays.constants in
    let once = read_one c.args.row (out_row c.args.ports.now c.args.o) in
    let did = did_over (read_one c.args.row (out_row c.loop-turn.ports c.args.o)) c.loop-turn.now
    (Ok (c.in_ok-on.on, c.in_ok-on.next))
    later first same c.in_ok-on.ensures.did in
    step_stop 102 c.loop-turn._turn once (payloads_at first c.loop-turn.now) kept
    (payloads_at first c.in_ok-on.next) c.loop-turn-test.true
    (did_gave (ap (λ (on : Bool). (on, payloads_at first c.in_ok-on.next)) c.if-not-on.true)
    (did_as (ap (λ out. read_one c.args.row out (payloads_at first c.loop-turn.now))
    (out_row_kept kept.same kept.rows c.args.o)) did))

pub loop-turn-preserved : goal.loop-turn-preserved
loop-turn-preserved g c =
    let kept = c.loop-turn.invariant.goes in
    let first = capture_at c.args.capture (g.C.Ctx.tray c.args.ctx.now) in
    let later = capture_at c.args.capture (g.C.Ctx.tray c.loop-turn.ctx) in
    let same = capture_kept c.args.capture (g.C.Ctx.tray c.args.ctx.now) (g.C.Ctx.tray c.loop-turn.ctx) kept.stays.constants in
    let once = read_one c.args.row (out_row c.args.ports.now c.args.o) in
    let did = did_over (read_one c.args.row (out_row c.loop-turn.ports c.args.o)) c.loop-turn.now
    (Ok (c.in_ok-on.on, c.in_ok-on.next))
    later first same c.in_ok-on.ensures.did in
    record {
      lent = c.in_ok-on.ensures.lent ∙ c.loop-turn.invariant.lent;
      place = subst (λ bytes. IsPlace bytes c.in_ok-on.next) same c.in_ok-on.ensures.place;
      goes = step_next 102 c.loop-turn._turn once (payloads_at first c.loop-turn.now) kept (payloads_at first c.in_ok-on.next)
          c.loop-turn-test.true
          (did_gave (ap (λ (on : Bool). (on, payloads_at first c.in_ok-on.next)) c.if-not-on.false)
          (did_as (ap (λ out. read_one c.args.row out (payloads_at first c.loop-turn.now))
          (out_row_kept kept.same kept.rows c.args.o)) did));
    }

pub returns-clause-did : goal.returns-clause-did
returns-clause-did g c =
    step_end 102 c.loop-turn._turn (read_one c.args.row (out_row c.args.ports.now c.args.o))
    (payloads_at (capture_at c.args.capture (g.C.Ctx.tray c.args.ctx.now)) c.loop-turn.now) c.loop-turn.invariant.goes
    c.loop-turn-test.false
