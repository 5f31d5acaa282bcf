use Rattle.std.proofs.Common.{◌≡◌, ◌<◌, length, Err, arith, rules}
use Rattle.sn_app.specs.Apps.{tee_push}
use Rattle.sn_app.specs.Ports.{in_ports, out_ports, slots_of}
use Rattle.sn_app.specs.World.{nowhere, world}
use Rattle.sn_app.specs.declared.halt.Halt.TheVariants.{OutOfMemory}
use Rattle.sn_app.proofs.Hands.{runs_lost}
use Rattle.sn_app.proofs.Looping.{did_still, outputs_count}
use Rattle.sn_basic.proofs.Copies.{push_none, push_some}
use Rattle.sn_basic.proofs.tee.copy_all.Goals as goal

pub returns-then-outs-eq0-clause-did : goal.returns-then-outs-eq0-clause-did
returns-then-outs-eq0-clause-did g c =
    let ports = c.args.ports.now in
    let none : length (out_ports ports) ≡ 0 = omega (arith, c.outs.ensures, c.if-outs-eq0.true, outputs_count ports) in
    did_still (push_none c.args.app (in_ports ports) (out_ports ports) none)

pub returns-in_err-reserve-clause-did : goal.returns-in_err-reserve-clause-did
returns-in_err-reserve-clause-did g c =
    let ports = c.args.ports.now in
    let e : c.from_residual.result ≡ Err OutOfMemory = search rules in
    rw e (did_still (runs_lost (tee_push c.args.app (in_ports ports) (out_ports ports))
    (world (g.C.Ctx.tray c.args.ctx.now) (g.C.Ctx.used c.args.ctx.now) (slots_of ports)) nowhere nowhere))

pub returns-clause-did : goal.returns-clause-did
returns-clause-did g c =
    let ports = c.args.ports.now in
    let some : 0 < length (out_ports ports) = omega (arith, c.outs.ensures, c.if-outs-eq0.false, outputs_count ports) in
    push_some c.args.app c.least_room-room.result (in_ports ports) (out_ports ports) some
    (c.least_room-room.ensures (g.C.Ctx.tray c.args.ctx.now) (g.C.Ctx.used c.args.ctx.now) c.requires.ready.sound)
    c.copy_inputs.ensures.did
