use Rattle.std.proofs.Common.{◌≡◌, Err, rules}
use Rattle.sn_core.specs.declared.events.Side.TheVariants.{Rx}
use Rattle.sn_app.specs.Apps.{output_named, pulls, receiver, receiver_pull, staying}
use Rattle.sn_app.specs.Ports.{out_ports, out_row}
use Rattle.sn_app.specs.World.{nowhere}
use Rattle.sn_app.proofs.AtPorts.{runs_linked_port, runs_no_port}
use Rattle.sn_app.proofs.Looping.{did_stays}
use Rattle.sn_app.proofs.Making.{runs_staying, runs_staying_halt}
use Rattle.sn_edge.specs.Needs.{HasEnd-stays}
use Rattle.sn_edge.proofs.receiver.ReceiverApp.pull.Goals as goal

pub returns-in_default-clause-runs : goal.returns-in_default-clause-runs
unfolding pulls
returns-in_default-clause-runs g c =
    let row = c.args.self.now.row in
    let lane = c.args.self.now.lane in
    runs_no_port (receiver row lane) (output_named (out_ports c.args.ports.now))
    (λ out. staying (receiver row lane) (receiver_pull row lane out))
    c.linked_output.result c.in_default.is c.linked_output.ensures.none

pub returns-clause-runs : goal.returns-clause-runs
unfolding pulls
returns-clause-runs g c =
    let row = c.args.self.now.row in
    let lane = c.args.self.now.lane in
    runs_linked_port (receiver row lane) (output_named (out_ports c.args.ports.now))
    (λ out. staying (receiver row lane) (receiver_pull row lane out)) (out_row c.args.ports.now)
    c.linked_output.result c.in-Some.o c.in-Some.is c.linked_output.ensures.row
    (runs_staying (receiver row lane) c.in_ok-receive_all.ensures.did.runs)

pub returns-in_err-receive_all-clause-runs : goal.returns-in_err-receive_all-clause-runs
unfolding pulls
returns-in_err-receive_all-clause-runs g c =
    let row = c.args.self.now.row in
    let lane = c.args.self.now.lane in
    let e : c.from_residual.result ≡ Err c.in_err-receive_all.field-0.0 = search rules in
    rw e (runs_linked_port (receiver row lane) (output_named (out_ports c.args.ports.now))
    (λ out. staying (receiver row lane) (receiver_pull row lane out)) (out_row c.args.ports.now)
    c.linked_output.result c.in-Some.o c.in-Some.is c.linked_output.ensures.row
    (runs_staying_halt (receiver row lane) nowhere c.in_err-receive_all.ensures.did.runs))

pub returns-clause-ready : goal.returns-clause-ready
returns-clause-ready g c =
    HasEnd-stays c.args.self.now.row c.args.self.now.lane Rx (g.C.Ctx.tray c.args.ctx.now) (g.C.Ctx.tray c.receive_all.new.ctx)
    (did_stays c.in_ok-receive_all.ensures.did) c.requires.ready
