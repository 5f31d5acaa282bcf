use Rattle.std.proofs.Common.{◌≡◌, ◌<◌, Err, length, sym, ap, subst, rules}
use Rattle.sn_pcap.specs.Places.{IsPlace, payloads_at}
use Rattle.sn_app.specs.Apps.{output_named, pcap_reader, pulls, reader_pull}
use Rattle.sn_app.specs.Desk.{capture_at}
use Rattle.sn_app.specs.Ports.{out_ports, out_row}
use Rattle.sn_app.specs.Reader.{pure}
use Rattle.sn_app.proofs.AtPorts.{runs_linked_port, runs_no_port}
use Rattle.sn_app.proofs.Handling.{did_fails, did_gives}
use Rattle.sn_app.proofs.Looping.{did_gave, did_stays}
use Rattle.sn_edge.specs.Needs.{capture_kept}
use Rattle.sn_edge.proofs.pcap_reader.PcapReaderApp.pull.Goals as goal

pub returns-in_default-clause-runs : goal.returns-in_default-clause-runs
unfolding pulls
returns-in_default-clause-runs g c =
    let row = c.args.self.now.row in
    let left = payloads_at (capture_at c.args.self.now.capture (g.C.Ctx.tray c.args.ctx.now)) c.args.self.now.at in
    runs_no_port (pcap_reader row left) (output_named (out_ports c.args.ports.now)) (reader_pull row left) c.linked_output.result
    c.in_default.is c.linked_output.ensures.none

pub returns-in_err-at-clause-runs : goal.returns-in_err-at-clause-runs
unfolding pulls reader_pull
returns-in_err-at-clause-runs g c =
    let row = c.args.self.now.row in
    let left = payloads_at (capture_at c.args.self.now.capture (g.C.Ctx.tray c.args.ctx.now)) c.args.self.now.at in
    let e : c.from_residual.result ≡ Err c.in_err-at.field-0.0 = search rules in
    rw e (runs_linked_port (pcap_reader row left) (output_named (out_ports c.args.ports.now)) (reader_pull row left)
    (out_row c.args.ports.now) c.linked_output.result c.in-Some.o c.in-Some.is c.linked_output.ensures.row
    (did_fails (λ now. pure (pcap_reader row now)) c.in_err-at.ensures.did).runs)

pub returns-clause-runs : goal.returns-clause-runs
unfolding pulls reader_pull
returns-clause-runs g c =
    let row = c.args.self.now.row in
    let capture = c.args.self.now.capture in
    let left = payloads_at (capture_at capture (g.C.Ctx.tray c.args.ctx.now)) c.args.self.now.at in
    let same = capture_kept capture (g.C.Ctx.tray c.args.ctx.now) (g.C.Ctx.tray c.read_some.new.ctx)
    (did_stays c.in_ok-at.ensures.did).constants in
    runs_linked_port (pcap_reader row left) (output_named (out_ports c.args.ports.now)) (reader_pull row left)
    (out_row c.args.ports.now) c.linked_output.result c.in-Some.o c.in-Some.is c.linked_output.ensures.row
    (did_gave (ap (λ bytes. pcap_reader row (payloads_at bytes c.in_ok-at.at)) (sym same))
    (did_gives (λ now. pcap_reader row now) c.in_ok-at.ensures.did)).runs

pub returns-clause-ready : goal.returns-clause-ready
returns-clause-ready g c =
    let stays = did_stays c.in_ok-at.ensures.did in
    let capture = c.args.self.now.capture in
    record {
      counts = subst (λ constants. c.args.self.now.row < length constants.roster.apps)
          (sym stays.constants) c.requires.ready.counts;
      there = subst (λ constants. capture < length constants.roster.captures) (sym stays.constants) c.requires.ready.there;
      place = subst (λ bytes. IsPlace bytes c.in_ok-at.at)
          (sym (capture_kept capture (g.C.Ctx.tray c.args.ctx.now) (g.C.Ctx.tray c.read_some.new.ctx) stays.constants))
          c.in_ok-at.ensures.place;
    }
