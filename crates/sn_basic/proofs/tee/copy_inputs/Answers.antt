use Rattle.std.proofs.Common.{◌≡◌, ◌<◌, ◌∙◌, ℕ, Bool, true, false, [], get_or, length, Err, ap, sym, arith, rules}
use Rattle.sn_app.specs.Apps.{tee_input}
use Rattle.sn_app.specs.Desk.{Tray}
use Rattle.sn_app.specs.Loops.{Goes}
use Rattle.sn_app.specs.Ports.{in_ports, in_row, ins_of, out_ports, slots_of}
use Rattle.sn_app.specs.Reader.{Meaning}
use Rattle.sn_app.specs.World.{Used, nowhere, world}
use Rattle.sn_app.specs.declared.ports.Ports.{Ports}
use Rattle.sn_app.proofs.Looping.{did_as, did_gave, in_row_kept, inputs_count, out_ports_kept, row_at_place}
use Rattle.sn_basic.proofs.Copies.{inputs_end, inputs_halt, inputs_next, inputs_stop}
use Rattle.sn_basic.proofs.tee.copy_inputs.Goals as goal

-- an input by its port at the start
input_same : {left whole : Meaning Bool} {t s : Tray} {u v : Used} (from to : Ports) (app i room : ℕ) → i < length (ins_of from)
    → Goes left whole (world t u (slots_of from)) (world s v (slots_of to)) nowhere nowhere from to
    → tee_input app (out_ports to) (in_row to i) room ≡ tee_input app (out_ports from) (get_or (in_ports from) i ([], 0)).1 room
input_same from to app i room within c =
    ap (λ outs. tee_input app outs (in_row to i) room) (out_ports_kept c.same c.rows)
    ∙ ap (λ row. tee_input app (out_ports from) row room)
    (in_row_kept c.same c.rows i ∙ sym (row_at_place (slots_of from) (ins_of from) i within))

pub returns-in_err-on-clause-did : goal.returns-in_err-on-clause-did
returns-in_err-on-clause-did g c =
    let from = c.args.ports.now in
    let i = c.loop-i.i in
    let kept = c.loop-i.invariant.goes in
    let within : i < length (ins_of from) = omega (arith, c.ins-i-end.ensures, c.loop-i-test.true) in
    let counted : i < length (in_ports from) = omega (arith, within, inputs_count from) in
    let e : c.from_residual.result ≡ Err c.in_err-on.field-0.0 = search rules in
    rw e (inputs_halt c.args.app c.loop-i.left i (out_ports from) (in_ports from) ([], 0) counted kept
    (did_as (input_same from c.loop-i.ports c.args.app i c.loop-i.left within kept) c.in_err-on.ensures.did))

pub returns-then-not-on-clause-did : goal.returns-then-not-on-clause-did
returns-then-not-on-clause-did g c =
    let from = c.args.ports.now in
    let i = c.loop-i.i in
    let kept = c.loop-i.invariant.goes in
    let within : i < length (ins_of from) = omega (arith, c.ins-i-end.ensures, c.loop-i-test.true) in
    let counted : i < length (in_ports from) = omega (arith, within, inputs_count from) in
    let gives : (c.in_ok-on.on, c.in_ok-on.rest)
    ≡ (false, c.in_ok-on.rest) = ap (λ (b : Bool). (b, c.in_ok-on.rest)) c.if-not-on.true in
    inputs_stop c.args.app c.loop-i.left i (out_ports from) (in_ports from) ([], 0) counted kept c.in_ok-on.rest
    (did_gave gives (did_as (input_same from c.loop-i.ports c.args.app i c.loop-i.left within kept) c.in_ok-on.ensures.did))

pub loop-i-preserved : goal.loop-i-preserved
loop-i-preserved g c =
    let from = c.args.ports.now in
    let i = c.loop-i.i in
    let kept = c.loop-i.invariant.goes in
    let within : i < length (ins_of from) = omega (arith, c.ins-i-end.ensures, c.loop-i-test.true) in
    let counted : i < length (in_ports from) = omega (arith, within, inputs_count from) in
    let gives : (c.in_ok-on.on, c.in_ok-on.rest)
    ≡ (true, c.in_ok-on.rest) = ap (λ (b : Bool). (b, c.in_ok-on.rest)) c.if-not-on.false in
    record {
      lent = c.in_ok-on.ensures.lent ∙ c.loop-i.invariant.lent;
      room = c.in_ok-on.ensures.room ∙ c.loop-i.invariant.room;
      goes = inputs_next c.args.app c.loop-i.left i (out_ports from) (in_ports from) ([], 0) counted kept c.in_ok-on.rest
          (did_gave gives (did_as (input_same from c.loop-i.ports c.args.app i c.loop-i.left within kept)
          c.in_ok-on.ensures.did));
    }

pub returns-clause-did : goal.returns-clause-did
returns-clause-did g c =
    let from = c.args.ports.now in
    inputs_end c.args.app c.loop-i.left c.loop-i.i (out_ports from) (in_ports from)
    (omega (arith, c.ins-i-end.ensures, c.loop-i-test.false, inputs_count from)) c.loop-i.invariant.goes
