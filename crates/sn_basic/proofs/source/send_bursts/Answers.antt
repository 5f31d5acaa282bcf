use Rattle.std.proofs.Common.{◌≡◌, ◌∙◌, [], ◌<◌, length, Err, refl, rules, arith}
use Rattle.sn_app.specs.Apps.{source_burst, source_pull}
use Rattle.sn_app.specs.Ports.{out_ports, outs_of, slots_of}
use Rattle.sn_app.specs.World.{nowhere, world}
use Rattle.sn_app.proofs.Looping.{at_output, did_as, did_gave, goes_start, outputs_count, item_end, item_halt, item_next, item_stop, out_within, out_within, ready_then}
use Rattle.sn_basic.proofs.source.send_bursts.Goals as goal

pub loop-o-init : goal.loop-o-init
unfolding source_pull
loop-o-init g c = record {
  lent = refl;
  goes = goes_start (source_pull c.args.row c.args.size (out_ports c.args.ports.now))
      (world (g.C.Ctx.tray c.args.ctx.now) (g.C.Ctx.used c.args.ctx.now) (slots_of c.args.ports.now)) nowhere c.args.ports.now c.requires.ready.sound;
}

pub send_burst-requires-clause-ready : goal.send_burst-requires-clause-ready
send_burst-requires-clause-ready g c = ready_then c.requires.ready c.loop-o.invariant.goes

pub send_burst-requires-clause-o : goal.send_burst-requires-clause-o
send_burst-requires-clause-o g c = out_within c.loop-o.invariant.goes.same c.loop-o.o (omega (arith, c.outs-o-end.ensures, c.loop-o-test.true))

pub returns-in_err-send_burst-clause-did : goal.returns-in_err-send_burst-clause-did
returns-in_err-send_burst-clause-did g c =
    let kept = c.loop-o.invariant.goes in
    let ports = c.args.ports.now in
    let within : c.loop-o.o < length (outs_of ports) = omega (arith, c.outs-o-end.ensures, c.loop-o-test.true) in
    let e : c.from_residual.result ≡ Err c.in_err-send_burst.field-0.0 = search rules in
    rw e (item_halt (out_ports ports) c.loop-o.o (λ port. source_burst c.args.row c.args.size port.1) kept ([], 0) (omega (arith, within, outputs_count ports))
    (did_as (at_output (source_burst c.args.row c.args.size) c.loop-o.o within kept.same kept.rows) c.in_err-send_burst.ensures.did))

pub returns-then-not-branch-clause-did : goal.returns-then-not-branch-clause-did
returns-then-not-branch-clause-did g c =
    let kept = c.loop-o.invariant.goes in
    let ports = c.args.ports.now in
    let within : c.loop-o.o < length (outs_of ports) = omega (arith, c.outs-o-end.ensures, c.loop-o-test.true) in
    item_stop (out_ports ports) c.loop-o.o (λ port. source_burst c.args.row c.args.size port.1) kept ([], 0) (omega (arith, within, outputs_count ports))
    (did_gave c.if-not-branch.true (did_as (at_output (source_burst c.args.row c.args.size) c.loop-o.o within kept.same kept.rows) c.in_ok-send_burst.ensures.did))

pub loop-o-preserved : goal.loop-o-preserved
loop-o-preserved g c =
    let kept = c.loop-o.invariant.goes in
    let ports = c.args.ports.now in
    let within : c.loop-o.o < length (outs_of ports) = omega (arith, c.outs-o-end.ensures, c.loop-o-test.true) in
    record {
      lent = c.in_ok-send_burst.ensures.lent ∙ c.loop-o.invariant.lent;
      goes = item_next (out_ports ports) c.loop-o.o (λ port. source_burst c.args.row c.args.size port.1) kept ([], 0) (omega (arith, within, outputs_count ports))
          (did_gave c.if-not-branch.false (did_as (at_output (source_burst c.args.row c.args.size) c.loop-o.o within kept.same kept.rows) c.in_ok-send_burst.ensures.did));
    }

pub returns-clause-did : goal.returns-clause-did
returns-clause-did g c =
    let ports = c.args.ports.now in
    item_end (out_ports ports) c.loop-o.o (λ port. source_burst c.args.row c.args.size port.1) c.loop-o.invariant.goes
    (omega (arith, c.outs-o-end.ensures, c.loop-o-test.false, outputs_count ports))
