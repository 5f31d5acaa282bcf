use Rattle.std.proofs.Common.{◌≡◌, ◌∙◌, [], ℕ, ◌<◌, length, Err, ap, refl, rules, arith}
use Rattle.sn_app.specs.Apps.{split_input, move_some}
use Rattle.sn_app.specs.Ports.{in_row, out_ports, out_row, outs_of, slots_of}
use Rattle.sn_app.specs.World.{nowhere, world}
use Rattle.sn_app.proofs.Looping.{at_output, did_as, did_gave, goes_start, outputs_count, in_row_kept, item_end, item_halt, item_next, item_stop, out_within, ready_then, in_within}
use Rattle.sn_basic.proofs.split.split_input.Goals as goal

pub loop-o-init : goal.loop-o-init
unfolding split_input
loop-o-init g c = record {
  lent = refl;
  goes = goes_start (split_input c.args.app (out_ports c.args.ports.now) (in_row c.args.ports.now c.args.i))
      (world (g.C.Ctx.tray c.args.ctx.now) (g.C.Ctx.used c.args.ctx.now) (slots_of c.args.ports.now)) nowhere c.args.ports.now c.requires.ready.sound;
}

pub move_some-requires-clause-ready : goal.move_some-requires-clause-ready
move_some-requires-clause-ready g c = ready_then c.requires.ready c.loop-o.invariant.goes

pub move_some-requires-clause-o : goal.move_some-requires-clause-o
move_some-requires-clause-o g c = out_within c.loop-o.invariant.goes.same c.loop-o.o (omega (arith, c.outs-o-end.ensures, c.loop-o-test.true))

pub move_some-requires-clause-i : goal.move_some-requires-clause-i
move_some-requires-clause-i g c = in_within c.loop-o.invariant.goes.same c.args.i c.requires.i

pub returns-in_err-move_some-clause-did : goal.returns-in_err-move_some-clause-did
returns-in_err-move_some-clause-did g c =
    let kept = c.loop-o.invariant.goes in
    let ports = c.args.ports.now in
    let within : c.loop-o.o < length (outs_of ports) = omega (arith, c.outs-o-end.ensures, c.loop-o-test.true) in
    let e : c.from_residual.result ≡ Err c.in_err-move_some.field-0.0 = search rules in
    rw e (item_halt (out_ports ports) c.loop-o.o (λ port. move_some c.args.app (in_row c.args.ports.now c.args.i) port.1) kept ([], 0) (omega (arith, within, outputs_count ports))
    (did_as (ap (λ (r : ℕ). move_some c.args.app r (out_row c.loop-o.ports c.loop-o.o)) (in_row_kept kept.same kept.rows c.args.i) ∙ at_output (λ (r : ℕ). move_some c.args.app (in_row ports c.args.i) r) c.loop-o.o within kept.same kept.rows) c.in_err-move_some.ensures.did))

pub returns-then-not-branch-clause-did : goal.returns-then-not-branch-clause-did
returns-then-not-branch-clause-did g c =
    let kept = c.loop-o.invariant.goes in
    let ports = c.args.ports.now in
    let within : c.loop-o.o < length (outs_of ports) = omega (arith, c.outs-o-end.ensures, c.loop-o-test.true) in
    item_stop (out_ports ports) c.loop-o.o (λ port. move_some c.args.app (in_row c.args.ports.now c.args.i) port.1) kept ([], 0) (omega (arith, within, outputs_count ports))
    (did_gave c.if-not-branch.true (did_as (ap (λ (r : ℕ). move_some c.args.app r (out_row c.loop-o.ports c.loop-o.o)) (in_row_kept kept.same kept.rows c.args.i) ∙ at_output (λ (r : ℕ). move_some c.args.app (in_row ports c.args.i) r) c.loop-o.o within kept.same kept.rows) c.in_ok-move_some.ensures.did))

pub loop-o-preserved : goal.loop-o-preserved
loop-o-preserved g c =
    let kept = c.loop-o.invariant.goes in
    let ports = c.args.ports.now in
    let within : c.loop-o.o < length (outs_of ports) = omega (arith, c.outs-o-end.ensures, c.loop-o-test.true) in
    record {
      lent = c.in_ok-move_some.ensures.lent ∙ c.loop-o.invariant.lent;
      goes = item_next (out_ports ports) c.loop-o.o (λ port. move_some c.args.app (in_row c.args.ports.now c.args.i) port.1) kept ([], 0) (omega (arith, within, outputs_count ports))
          (did_gave c.if-not-branch.false (did_as (ap (λ (r : ℕ). move_some c.args.app r (out_row c.loop-o.ports c.loop-o.o)) (in_row_kept kept.same kept.rows c.args.i) ∙ at_output (λ (r : ℕ). move_some c.args.app (in_row ports c.args.i) r) c.loop-o.o within kept.same kept.rows) c.in_ok-move_some.ensures.did));
    }

pub returns-clause-did : goal.returns-clause-did
returns-clause-did g c =
    let ports = c.args.ports.now in
    item_end (out_ports ports) c.loop-o.o (λ port. move_some c.args.app (in_row c.args.ports.now c.args.i) port.1) c.loop-o.invariant.goes
    (omega (arith, c.outs-o-end.ensures, c.loop-o-test.false, outputs_count ports))
