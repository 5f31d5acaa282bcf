use Rattle.std.proofs.Common.{◌≡◌, ◌∙◌, [], ℕ, ◌<◌, length, Err, ap, refl, rules, arith}
use Rattle.sn_app.specs.Apps.{join_push, move_some}
use Rattle.sn_app.specs.Ports.{in_ports, in_row, ins_of, out_row, slots_of}
use Rattle.sn_app.specs.World.{nowhere, world}
use Rattle.sn_app.proofs.Looping.{at_input, did_as, did_gave, goes_start, inputs_count, item_end, item_halt, item_next, item_stop, in_within, out_row_kept, ready_then, out_within}
use Rattle.sn_basic.proofs.join.join_inputs.Goals as goal

pub loop-i-init : goal.loop-i-init
unfolding join_push
loop-i-init g c = record {
  lent = refl;
  goes = goes_start (join_push c.args.app (in_ports c.args.ports.now) (out_row c.args.ports.now c.args.o))
      (world (g.C.Ctx.tray c.args.ctx.now) (g.C.Ctx.used c.args.ctx.now) (slots_of c.args.ports.now)) nowhere c.args.ports.now c.requires.ready.sound;
}

pub move_some-requires-clause-ready : goal.move_some-requires-clause-ready
move_some-requires-clause-ready g c = ready_then c.requires.ready c.loop-i.invariant.goes

pub move_some-requires-clause-i : goal.move_some-requires-clause-i
move_some-requires-clause-i g c = in_within c.loop-i.invariant.goes.same c.loop-i.i (omega (arith, c.ins-i-end.ensures, c.loop-i-test.true))

pub move_some-requires-clause-o : goal.move_some-requires-clause-o
move_some-requires-clause-o g c = out_within c.loop-i.invariant.goes.same c.args.o c.requires.o

pub returns-in_err-move_some-clause-did : goal.returns-in_err-move_some-clause-did
returns-in_err-move_some-clause-did g c =
    let kept = c.loop-i.invariant.goes in
    let ports = c.args.ports.now in
    let within : c.loop-i.i < length (ins_of ports) = omega (arith, c.ins-i-end.ensures, c.loop-i-test.true) in
    let e : c.from_residual.result ≡ Err c.in_err-move_some.field-0.0 = search rules in
    rw e (item_halt (in_ports ports) c.loop-i.i (λ port. move_some c.args.app port.1 (out_row c.args.ports.now c.args.o)) kept ([], 0) (omega (arith, within, inputs_count ports))
    (did_as (ap (move_some c.args.app (in_row c.loop-i.ports c.loop-i.i)) (out_row_kept kept.same kept.rows c.args.o) ∙ at_input (λ (r : ℕ). move_some c.args.app r (out_row ports c.args.o)) c.loop-i.i within kept.same kept.rows) c.in_err-move_some.ensures.did))

pub returns-then-not-branch-clause-did : goal.returns-then-not-branch-clause-did
returns-then-not-branch-clause-did g c =
    let kept = c.loop-i.invariant.goes in
    let ports = c.args.ports.now in
    let within : c.loop-i.i < length (ins_of ports) = omega (arith, c.ins-i-end.ensures, c.loop-i-test.true) in
    item_stop (in_ports ports) c.loop-i.i (λ port. move_some c.args.app port.1 (out_row c.args.ports.now c.args.o)) kept ([], 0) (omega (arith, within, inputs_count ports))
    (did_gave c.if-not-branch.true (did_as (ap (move_some c.args.app (in_row c.loop-i.ports c.loop-i.i)) (out_row_kept kept.same kept.rows c.args.o) ∙ at_input (λ (r : ℕ). move_some c.args.app r (out_row ports c.args.o)) c.loop-i.i within kept.same kept.rows) c.in_ok-move_some.ensures.did))

pub loop-i-preserved : goal.loop-i-preserved
loop-i-preserved g c =
    let kept = c.loop-i.invariant.goes in
    let ports = c.args.ports.now in
    let within : c.loop-i.i < length (ins_of ports) = omega (arith, c.ins-i-end.ensures, c.loop-i-test.true) in
    record {
      lent = c.in_ok-move_some.ensures.lent ∙ c.loop-i.invariant.lent;
      goes = item_next (in_ports ports) c.loop-i.i (λ port. move_some c.args.app port.1 (out_row c.args.ports.now c.args.o)) kept ([], 0) (omega (arith, within, inputs_count ports))
          (did_gave c.if-not-branch.false (did_as (ap (move_some c.args.app (in_row c.loop-i.ports c.loop-i.i)) (out_row_kept kept.same kept.rows c.args.o) ∙ at_input (λ (r : ℕ). move_some c.args.app r (out_row ports c.args.o)) c.loop-i.i within kept.same kept.rows) c.in_ok-move_some.ensures.did));
    }

pub returns-clause-did : goal.returns-clause-did
returns-clause-did g c =
    let ports = c.args.ports.now in
    item_end (in_ports ports) c.loop-i.i (λ port. move_some c.args.app port.1 (out_row c.args.ports.now c.args.o)) c.loop-i.invariant.goes
    (omega (arith, c.ins-i-end.ensures, c.loop-i-test.false, inputs_count ports))
