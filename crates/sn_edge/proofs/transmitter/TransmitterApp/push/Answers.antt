use Rattle.std.proofs.Common.{◌≡◌, Err, rules}
use Rattle.sn_core.specs.declared.events.Side.TheVariants.{Tx}
use Rattle.sn_app.specs.Apps.{input_named, pushes, transmitter, transmitter_push, staying}
use Rattle.sn_app.specs.Ports.{in_ports, in_row}
use Rattle.sn_app.specs.World.{nowhere}
use Rattle.sn_app.proofs.AtPorts.{runs_linked_port, runs_no_port}
use Rattle.sn_app.proofs.Looping.{did_stays}
use Rattle.sn_app.proofs.Making.{runs_staying, runs_staying_halt}
use Rattle.sn_edge.specs.Needs.{HasEnd-stays}
use Rattle.sn_edge.proofs.transmitter.TransmitterApp.push.Goals as goal

pub returns-in_default-clause-runs : goal.returns-in_default-clause-runs
unfolding pushes
returns-in_default-clause-runs g c =
    let row = c.args.self.now.row in
    let lane = c.args.self.now.lane in
    runs_no_port (transmitter row lane) (input_named (in_ports c.args.ports.now))
    (λ input. staying (transmitter row lane) (transmitter_push row lane input))
    c.linked_input.result c.in_default.is c.linked_input.ensures.none

pub returns-clause-runs : goal.returns-clause-runs
unfolding pushes
returns-clause-runs g c =
    let row = c.args.self.now.row in
    let lane = c.args.self.now.lane in
    runs_linked_port (transmitter row lane) (input_named (in_ports c.args.ports.now))
    (λ input. staying (transmitter row lane) (transmitter_push row lane input)) (in_row c.args.ports.now)
    c.linked_input.result c.in-Some.i c.in-Some.is c.linked_input.ensures.row
    (runs_staying (transmitter row lane) c.in_ok-put_all.ensures.did.runs)

pub returns-in_err-put_all-clause-runs : goal.returns-in_err-put_all-clause-runs
unfolding pushes
returns-in_err-put_all-clause-runs g c =
    let row = c.args.self.now.row in
    let lane = c.args.self.now.lane in
    let e : c.from_residual.result ≡ Err c.in_err-put_all.field-0.0 = search rules in
    rw e (runs_linked_port (transmitter row lane) (input_named (in_ports c.args.ports.now))
    (λ input. staying (transmitter row lane) (transmitter_push row lane input)) (in_row c.args.ports.now)
    c.linked_input.result c.in-Some.i c.in-Some.is c.linked_input.ensures.row
    (runs_staying_halt (transmitter row lane) nowhere c.in_err-put_all.ensures.did.runs))

pub returns-clause-ready : goal.returns-clause-ready
returns-clause-ready g c =
    HasEnd-stays c.args.self.now.row c.args.self.now.lane Tx (g.C.Ctx.tray c.args.ctx.now) (g.C.Ctx.tray c.put_all.new.ctx)
    (did_stays c.in_ok-put_all.ensures.did) c.requires.ready
