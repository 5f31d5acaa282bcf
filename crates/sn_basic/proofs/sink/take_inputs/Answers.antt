use Rattle.std.proofs.Common.{◌≡◌, ◌∙◌, [], ◌<◌, length, Err, refl, rules, arith}
use Rattle.sn_app.specs.Apps.{sink_all, sink_push}
use Rattle.sn_app.specs.Ports.{in_ports, ins_of, slots_of}
use Rattle.sn_app.specs.World.{nowhere, world}
use Rattle.sn_app.proofs.Looping.{at_input, did_as, did_gave, goes_start, inputs_count, item_end, item_halt, item_next, item_stop, in_within, ready_then}
use Rattle.sn_basic.proofs.sink.take_inputs.Goals as goal

pub loop-i-init : goal.loop-i-init
unfolding sink_push
loop-i-init g c = record {
  lent = refl;
  goes = goes_start (sink_push c.args.app (in_ports c.args.ports.now))
      (world (g.C.Ctx.tray c.args.ctx.now) (g.C.Ctx.used c.args.ctx.now) (slots_of c.args.ports.now)) nowhere c.args.ports.now c.requires.ready.sound;
}

pub take_all-requires-clause-ready : goal.take_all-requires-clause-ready
take_all-requires-clause-ready g c = ready_then c.requires.ready c.loop-i.invariant.goes

pub take_all-requires-clause-i : goal.take_all-requires-clause-i
take_all-requires-clause-i g c = in_within c.loop-i.invariant.goes.same c.loop-i.i (omega (arith, c.ins-i-end.ensures, c.loop-i-test.true))

pub returns-in_err-take_all-clause-did : goal.returns-in_err-take_all-clause-did
returns-in_err-take_all-clause-did g c =
    let kept = c.loop-i.invariant.goes in
    let ports = c.args.ports.now in
    let within : c.loop-i.i < length (ins_of ports) = omega (arith, c.ins-i-end.ensures, c.loop-i-test.true) in
    let e : c.from_residual.result ≡ Err c.in_err-take_all.field-0.0 = search rules in
    rw e (item_halt (in_ports ports) c.loop-i.i (λ port. sink_all c.args.app port.1) kept ([], 0) (omega (arith, within, inputs_count ports))
    (did_as (at_input (sink_all c.args.app) c.loop-i.i within kept.same kept.rows) c.in_err-take_all.ensures.did))

pub returns-then-not-branch-clause-did : goal.returns-then-not-branch-clause-did
returns-then-not-branch-clause-did g c =
    let kept = c.loop-i.invariant.goes in
    let ports = c.args.ports.now in
    let within : c.loop-i.i < length (ins_of ports) = omega (arith, c.ins-i-end.ensures, c.loop-i-test.true) in
    item_stop (in_ports ports) c.loop-i.i (λ port. sink_all c.args.app port.1) kept ([], 0) (omega (arith, within, inputs_count ports))
    (did_gave c.if-not-branch.true (did_as (at_input (sink_all c.args.app) c.loop-i.i within kept.same kept.rows) c.in_ok-take_all.ensures.did))

pub loop-i-preserved : goal.loop-i-preserved
loop-i-preserved g c =
    let kept = c.loop-i.invariant.goes in
    let ports = c.args.ports.now in
    let within : c.loop-i.i < length (ins_of ports) = omega (arith, c.ins-i-end.ensures, c.loop-i-test.true) in
    record {
      lent = c.in_ok-take_all.ensures.lent ∙ c.loop-i.invariant.lent;
      goes = item_next (in_ports ports) c.loop-i.i (λ port. sink_all c.args.app port.1) kept ([], 0) (omega (arith, within, inputs_count ports))
          (did_gave c.if-not-branch.false (did_as (at_input (sink_all c.args.app) c.loop-i.i within kept.same kept.rows) c.in_ok-take_all.ensures.did));
    }

pub returns-clause-did : goal.returns-clause-did
returns-clause-did g c =
    let ports = c.args.ports.now in
    item_end (in_ports ports) c.loop-i.i (λ port. sink_all c.args.app port.1) c.loop-i.invariant.goes
    (omega (arith, c.ins-i-end.ensures, c.loop-i-test.false, inputs_count ports))
