use Rattle.std.proofs.Common.{◌≡◌, Err, rules}
use Rattle.sn_app.specs.Apps.{input_named, pcap_writer, pushes, staying, writer_push}
use Rattle.sn_app.specs.Ports.{in_ports, in_row}
use Rattle.sn_app.specs.World.{nowhere}
use Rattle.sn_app.proofs.AtPorts.{runs_linked_port, runs_no_port}
use Rattle.sn_app.proofs.Looping.{did_stays}
use Rattle.sn_app.proofs.Making.{runs_staying, runs_staying_halt}
use Rattle.sn_edge.specs.Needs.{CanWrite-stays}
use Rattle.sn_edge.proofs.pcap_writer.PcapWriterApp.push.Goals as goal

pub returns-in_default-clause-runs : goal.returns-in_default-clause-runs
unfolding pushes
returns-in_default-clause-runs g c =
    let row = c.args.self.now.row in
    let file = c.args.self.now.file in
    runs_no_port (pcap_writer row file) (input_named (in_ports c.args.ports.now))
    (λ input. staying (pcap_writer row file) (writer_push row file input))
    c.linked_input.result c.in_default.is c.linked_input.ensures.none

pub returns-clause-runs : goal.returns-clause-runs
unfolding pushes
returns-clause-runs g c =
    let row = c.args.self.now.row in
    let file = c.args.self.now.file in
    runs_linked_port (pcap_writer row file) (input_named (in_ports c.args.ports.now))
    (λ input. staying (pcap_writer row file) (writer_push row file input)) (in_row c.args.ports.now)
    c.linked_input.result c.in-Some.i c.in-Some.is c.linked_input.ensures.row
    (runs_staying (pcap_writer row file) c.in_ok-append_all.ensures.did.runs)

pub returns-in_err-append_all-clause-runs : goal.returns-in_err-append_all-clause-runs
unfolding pushes
returns-in_err-append_all-clause-runs g c =
    let row = c.args.self.now.row in
    let file = c.args.self.now.file in
    let e : c.from_residual.result ≡ Err c.in_err-append_all.field-0.0 = search rules in
    rw e (runs_linked_port (pcap_writer row file) (input_named (in_ports c.args.ports.now))
    (λ input. staying (pcap_writer row file) (writer_push row file input)) (in_row c.args.ports.now)
    c.linked_input.result c.in-Some.i c.in-Some.is c.linked_input.ensures.row
    (runs_staying_halt (pcap_writer row file) nowhere c.in_err-append_all.ensures.did.runs))

pub returns-clause-ready : goal.returns-clause-ready
returns-clause-ready g c =
    CanWrite-stays c.args.self.now.row c.args.self.now.file (g.C.Ctx.tray c.args.ctx.now) (g.C.Ctx.tray c.append_all.new.ctx)
    (did_stays c.in_ok-append_all.ensures.did) c.requires.ready
