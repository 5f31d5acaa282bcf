use Rattle.std.proofs.Common.{◌≡◌, ◌∙◌, [], ℕ, ◌<◌, length, Err, ap, refl, rules, arith}
use Rattle.sn_app.specs.Apps.{split_input, split_push}
use Rattle.sn_app.specs.Ports.{in_ports, in_row, ins_of, out_ports, slots_of}
use Rattle.sn_app.specs.World.{nowhere, world}
use Rattle.sn_app.proofs.Looping.{at_input, did_as, did_gave, goes_start, inputs_count, item_end, item_halt, item_next, item_stop, in_within, out_ports_kept, ready_then}
use Rattle.sn_basic.proofs.split.split_inputs.Goals as goal

pub loop-i-init : goal.loop-i-init
unfolding split_push
loop-i-init g c = record {
  lent = refl;
  goes = goes_start (split_push c.args.app (in_ports c.args.ports.now) (out_ports c.args.ports.now))
      (world (g.C.Ctx.tray c.args.ctx.now) (g.C.Ctx.used c.args.ctx.now) (slots_of c.args.ports.now)) nowhere c.args.ports.now c.requires.ready.sound;
}

pub split_input-requires-clause-ready : goal.split_input-requires-clause-ready
split_input-requires-clause-ready g c = ready_then c.requires.ready c.loop-i.invariant.goes

pub split_input-requires-clause-i : goal.split_input-requires-clause-i
split_input-requires-clause-i g c = in_within c.loop-i.invariant.goes.same c.loop-i.i (omega (arith, c.ins-i-end.ensures, c.loop-i-test.true))

pub returns-in_err-split_input-clause-did : goal.returns-in_err-split_input-clause-did
returns-in_err-split_input-clause-did g c =
    let kept = c.loop-i.invariant.goes in
    let ports = c.args.ports.now in
    let within : c.loop-i.i < length (ins_of ports) = omega (arith, c.ins-i-end.ensures, c.loop-i-test.true) in
    let e : c.from_residual.result ≡ Err c.in_err-split_input.field-0.0 = search rules in
    rw e (item_halt (in_ports ports) c.loop-i.i (λ port. split_input c.args.app (out_ports c.args.ports.now) port.1) kept ([], 0) (omega (arith, within, inputs_count ports))
    (did_as (ap (λ outs. split_input c.args.app outs (in_row c.loop-i.ports c.loop-i.i)) (out_ports_kept kept.same kept.rows) ∙ at_input (λ (r : ℕ). split_input c.args.app (out_ports ports) r) c.loop-i.i within kept.same kept.rows) c.in_err-split_input.ensures.did))

pub returns-then-not-branch-clause-did : goal.returns-then-not-branch-clause-did
returns-then-not-branch-clause-did g c =
    let kept = c.loop-i.invariant.goes in
    let ports = c.args.ports.now in
    let within : c.loop-i.i < length (ins_of ports) = omega (arith, c.ins-i-end.ensures, c.loop-i-test.true) in
    item_stop (in_ports ports) c.loop-i.i (λ port. split_input c.args.app (out_ports c.args.ports.now) port.1) kept ([], 0) (omega (arith, within, inputs_count ports))
    (did_gave c.if-not-branch.true (did_as (ap (λ outs. split_input c.args.app outs (in_row c.loop-i.ports c.loop-i.i)) (out_ports_kept kept.same kept.rows) ∙ at_input (λ (r : ℕ). split_input c.args.app (out_ports ports) r) c.loop-i.i within kept.same kept.rows) c.in_ok-split_input.ensures.did))

pub loop-i-preserved : goal.loop-i-preserved
loop-i-preserved g c =
    let kept = c.loop-i.invariant.goes in
    let ports = c.args.ports.now in
    let within : c.loop-i.i < length (ins_of ports) = omega (arith, c.ins-i-end.ensures, c.loop-i-test.true) in
    record {
      lent = c.in_ok-split_input.ensures.lent ∙ c.loop-i.invariant.lent;
      goes = item_next (in_ports ports) c.loop-i.i (λ port. split_input c.args.app (out_ports c.args.ports.now) port.1) kept ([], 0) (omega (arith, within, inputs_count ports))
          (did_gave c.if-not-branch.false (did_as (ap (λ outs. split_input c.args.app outs (in_row c.loop-i.ports c.loop-i.i)) (out_ports_kept kept.same kept.rows) ∙ at_input (λ (r : ℕ). split_input c.args.app (out_ports ports) r) c.loop-i.i within kept.same kept.rows) c.in_ok-split_input.ensures.did));
    }

pub returns-clause-did : goal.returns-clause-did
returns-clause-did g c =
    let ports = c.args.ports.now in
    item_end (in_ports ports) c.loop-i.i (λ port. split_input c.args.app (out_ports c.args.ports.now) port.1) c.loop-i.invariant.goes
    (omega (arith, c.ins-i-end.ensures, c.loop-i-test.false, inputs_count ports))
