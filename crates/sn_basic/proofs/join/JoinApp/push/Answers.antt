use Rattle.std.proofs.Common.{◌≡◌, Err, rules}
use Rattle.sn_app.specs.Apps.{join, join_push, out_named, pushes, staying}
use Rattle.sn_app.specs.Ports.{in_ports, out_ports, out_row}
use Rattle.sn_app.specs.World.{nowhere}
use Rattle.sn_app.proofs.AtPorts.{runs_linked_port, runs_no_port}
use Rattle.sn_app.proofs.Looping.{did_stays}
use Rattle.sn_app.proofs.Making.{runs_staying, runs_staying_halt}
use Rattle.sn_basic.specs.Counts.{HasRow-stays}
use Rattle.sn_basic.proofs.join.JoinApp.push.Goals as goal

pub returns-in_default-clause-runs : goal.returns-in_default-clause-runs
unfolding pushes
returns-in_default-clause-runs g c =
    let s = join c.args.self.now.row in
    let ports = c.args.ports.now in
    runs_no_port s (out_named (out_ports ports)) (λ out. staying s (join_push c.args.self.now.row (in_ports ports) out))
    c.linked_out.result c.in_default.is c.linked_out.ensures.none

pub returns-clause-runs : goal.returns-clause-runs
unfolding pushes
returns-clause-runs g c =
    let s = join c.args.self.now.row in
    let ports = c.args.ports.now in
    runs_linked_port s (out_named (out_ports ports)) (λ out. staying s (join_push c.args.self.now.row (in_ports ports) out)) (out_row ports)
    c.linked_out.result c.in-Some.o c.in-Some.is c.linked_out.ensures.row (runs_staying s c.in_ok-join_inputs.ensures.did.runs)

pub returns-in_err-join_inputs-clause-runs : goal.returns-in_err-join_inputs-clause-runs
unfolding pushes
returns-in_err-join_inputs-clause-runs g c =
    let s = join c.args.self.now.row in
    let ports = c.args.ports.now in
    let e : c.from_residual.result ≡ Err c.in_err-join_inputs.field-0.0 = search rules in
    rw e (runs_linked_port s (out_named (out_ports ports)) (λ out. staying s (join_push c.args.self.now.row (in_ports ports) out)) (out_row ports)
    c.linked_out.result c.in-Some.o c.in-Some.is c.linked_out.ensures.row (runs_staying_halt s nowhere c.in_err-join_inputs.ensures.did.runs))

pub returns-clause-ready : goal.returns-clause-ready
returns-clause-ready g c =
    HasRow-stays c.args.self.now.row (g.C.Ctx.tray c.args.ctx.now) (g.C.Ctx.tray c.join_inputs.new.ctx)
    (did_stays c.in_ok-join_inputs.ensures.did) c.requires.ready
