use Rattle.std.proofs.Common.{◌≡◌, Err, rules}
use Rattle.sn_app.specs.Apps.{input_named, output_named, pushes, sample, sample_push}
use Rattle.sn_app.specs.Ports.{in_ports, in_row, out_ports, out_row}
use Rattle.sn_app.specs.Reader.{pure, ◌>>=◌}
use Rattle.sn_app.proofs.AtPorts.{runs_linked, runs_no_input, runs_no_output}
use Rattle.sn_app.proofs.Looping.{did_stays}
use Rattle.sn_app.proofs.Handling.{did_fails, did_gives}
use Rattle.sn_basic.specs.Counts.{HasRow-stays}
use Rattle.sn_basic.proofs.sample.SampleApp.push.Goals as goal

pub returns-in_default-clause-runs : goal.returns-in_default-clause-runs
unfolding pushes
returns-in_default-clause-runs g c =
    let s = sample c.args.self.now.row c.args.self.now.n c.args.self.now.seen in
    let ports = c.args.ports.now in
    runs_no_input s (input_named (in_ports ports)) (output_named (out_ports ports)) (λ input out. sample_push c.args.self.now.row c.args.self.now.n input out c.args.self.now.seen >>= (λ now. pure (sample c.args.self.now.row c.args.self.now.n now)))
    c.linked_input.result c.in_default.is c.linked_input.ensures.none

pub returns-in_default-linked_output-clause-runs : goal.returns-in_default-linked_output-clause-runs
unfolding pushes
returns-in_default-linked_output-clause-runs g c =
    let s = sample c.args.self.now.row c.args.self.now.n c.args.self.now.seen in
    let ports = c.args.ports.now in
    runs_no_output s (input_named (in_ports ports)) (output_named (out_ports ports)) (λ input out. sample_push c.args.self.now.row c.args.self.now.n input out c.args.self.now.seen >>= (λ now. pure (sample c.args.self.now.row c.args.self.now.n now)))
    c.linked_output.result c.in_default-linked_output.is c.linked_output.ensures.none

pub returns-clause-runs : goal.returns-clause-runs
unfolding pushes
returns-clause-runs g c =
    let s = sample c.args.self.now.row c.args.self.now.n c.args.self.now.seen in
    let ports = c.args.ports.now in
    runs_linked s (input_named (in_ports ports)) (output_named (out_ports ports)) (λ input out. sample_push c.args.self.now.row c.args.self.now.n input out c.args.self.now.seen >>= (λ now. pure (sample c.args.self.now.row c.args.self.now.n now))) (in_row ports) (out_row ports)
    c.linked_input.result c.linked_output.result c.in-Some.i c.in-Some-linked_output.o c.in-Some.is c.linked_input.ensures.row c.in-Some-linked_output.is c.linked_output.ensures.row
    (did_gives (λ now. sample c.args.self.now.row c.args.self.now.n now) c.in_ok-seen.ensures.did).runs

pub returns-in_err-seen-clause-runs : goal.returns-in_err-seen-clause-runs
unfolding pushes
returns-in_err-seen-clause-runs g c =
    let s = sample c.args.self.now.row c.args.self.now.n c.args.self.now.seen in
    let ports = c.args.ports.now in
    let e : c.from_residual.result ≡ Err c.in_err-seen.field-0.0 = search rules in
    rw e (runs_linked s (input_named (in_ports ports)) (output_named (out_ports ports)) (λ input out. sample_push c.args.self.now.row c.args.self.now.n input out c.args.self.now.seen >>= (λ now. pure (sample c.args.self.now.row c.args.self.now.n now))) (in_row ports) (out_row ports)
    c.linked_input.result c.linked_output.result c.in-Some.i c.in-Some-linked_output.o c.in-Some.is c.linked_input.ensures.row c.in-Some-linked_output.is c.linked_output.ensures.row
    (did_fails (λ now. pure (sample c.args.self.now.row c.args.self.now.n now)) c.in_err-seen.ensures.did).runs)

pub returns-clause-ready : goal.returns-clause-ready
returns-clause-ready g c =
    HasRow-stays c.args.self.now.row (g.C.Ctx.tray c.args.ctx.now) (g.C.Ctx.tray c.sample_all.new.ctx)
    (did_stays c.in_ok-seen.ensures.did) c.requires.ready
