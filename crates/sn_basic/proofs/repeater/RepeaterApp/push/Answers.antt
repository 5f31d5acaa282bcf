use Rattle.std.proofs.Common.{◌≡◌, Ok, Err, ap, refl, sym, subst, rules}
use Rattle.sn_packet.specs.Hold.{among}
use Rattle.sn_app.specs.Apps.{input_named, output_named, pushes, repeat_some, repeater, repeater_push}
use Rattle.sn_app.specs.Hands.{packets_at}
use Rattle.sn_app.specs.Loops.{Did}
use Rattle.sn_app.specs.Ports.{in_ports, in_row, out_ports, out_row, slots_of}
use Rattle.sn_app.specs.World.{IsSound, Used, world}
use Rattle.sn_app.proofs.AtPorts.{runs_linked, runs_no_input, runs_no_output}
use Rattle.sn_app.proofs.Handling.{sound_without}
use Rattle.sn_app.proofs.Looping.{did_as, did_stays, inputs_kept, out_row_kept, outputs_kept}
use Rattle.sn_app.proofs.Moving.{sound_moved}
use Rattle.sn_basic.specs.Counts.{HasRow-stays}
use Rattle.sn_basic.proofs.Repeating.{push_done, push_halts, push_unkept}
use Rattle.sn_basic.proofs.repeater.RepeaterApp.push.Goals as goal

pub returns-in_default-clause-runs : goal.returns-in_default-clause-runs
unfolding pushes
returns-in_default-clause-runs g c =
    let row = c.args.self.now.row in
    let packets = packets_at (g.C.Ctx.used c.args.ctx.now) c.args.self.now.kept.items in
    let next = c.args.self.now.next in
    let ports = c.args.ports.now in
    runs_no_input (repeater row packets next) (input_named (in_ports ports)) (output_named (out_ports ports))
    (repeater_push row packets next)
    c.linked_input.result c.in_default.is c.linked_input.ensures.none

pub returns-in_default-linked_output-clause-runs : goal.returns-in_default-linked_output-clause-runs
unfolding pushes
returns-in_default-linked_output-clause-runs g c =
    let row = c.args.self.now.row in
    let packets = packets_at (g.C.Ctx.used c.args.ctx.now) c.args.self.now.kept.items in
    let next = c.args.self.now.next in
    let ports = c.args.ports.now in
    runs_no_output (repeater row packets next) (input_named (in_ports ports)) (output_named (out_ports ports))
    (repeater_push row packets next)
    c.linked_output.result c.in_default-linked_output.is c.linked_output.ensures.none

pub returns-in_err-keep_some-clause-runs : goal.returns-in_err-keep_some-clause-runs
unfolding pushes
returns-in_err-keep_some-clause-runs g c =
    let row = c.args.self.now.row in
    let u : Used = g.C.Ctx.used c.args.ctx.now in
    let before = c.args.self.now.kept.items in
    let next = c.args.self.now.next in
    let ports = c.args.ports.now in
    let i = c.in-Some.i in
    let o = c.in-Some-linked_output.o in
    let e : c.from_residual.result ≡ Err c.in_err-keep_some.field-0.0 = search rules in
    rw e (runs_linked (repeater row (packets_at u before) next) (input_named (in_ports ports)) (output_named (out_ports ports))
    (repeater_push row (packets_at u before) next) (in_row ports) (out_row ports) c.linked_input.result c.linked_output.result i o
    c.in-Some.is c.linked_input.ensures.row c.in-Some-linked_output.is c.linked_output.ensures.row
    (push_unkept u ports c.keep_some.new.ports row next (in_row ports i)
    (out_row ports o) before c.keep_some.new.kept.items c.in_err-keep_some.ensures.did))

pub repeat_some-requires-clause-ready : goal.repeat_some-requires-clause-ready
repeat_some-requires-clause-ready g c =
    let kept = c.in_ok-keep_some.ensures.did in
    record {
      counts = c.requires.ready;
      ins = inputs_kept kept.same kept.rows c.requires.ins;
      outs = outputs_kept kept.same kept.rows c.requires.outs;
      sound = sound_without (sound_moved (kept.runs.moves
          (packets_at (g.C.Ctx.used c.args.ctx.now) c.keep_some.new.kept.items) refl) c.requires.sound);
    }

pub repeat_some-requires-clause-sound : goal.repeat_some-requires-clause-sound
repeat_some-requires-clause-sound g c =
    let t = g.C.Ctx.tray c.args.ctx.now in
    let u : Used = g.C.Ctx.used c.args.ctx.now in
    let kept = c.in_ok-keep_some.ensures.did in
    subst (λ places. IsSound (world t u (slots_of c.keep_some.new.ports)) (among places)) (sym c.as_slice.ensures.value)
    (sound_moved (kept.runs.moves (packets_at u c.keep_some.new.kept.items) refl) c.requires.sound)

pub returns-in_err-next-clause-runs : goal.returns-in_err-next-clause-runs
unfolding pushes
returns-in_err-next-clause-runs g c =
    let row = c.args.self.now.row in
    let t = g.C.Ctx.tray c.args.ctx.now in
    let u : Used = g.C.Ctx.used c.args.ctx.now in
    let s = g.C.Ctx.tray c.repeat_some.new.ctx in
    let v : Used = g.C.Ctx.used c.repeat_some.new.ctx in
    let before = c.args.self.now.kept.items in
    let after = c.keep_some.new.kept.items in
    let next = c.args.self.now.next in
    let ports = c.args.ports.now in
    let mid = c.keep_some.new.ports in
    let to = c.repeat_some.new.ports in
    let i = c.in-Some.i in
    let o = c.in-Some-linked_output.o in
    let kept = c.in_ok-keep_some.ensures.did in
    let halt = c.in_err-next.field-0.0 in
    let did : Did (repeat_some row (out_row ports o) (packets_at u after) next) t s u v mid to (Err halt) =
    did_as (ap (λ out. repeat_some row out (packets_at u after) next) (out_row_kept kept.same kept.rows o))
    (subst (λ places. Did (repeat_some row (out_row mid o) (packets_at u places) next) t s u v mid to (Err halt))
    c.as_slice.ensures.value c.in_err-next.ensures.did) in
    let e : c.from_residual-in_err-next.result ≡ Err halt = search rules in
    rw e (runs_linked (repeater row (packets_at u before) next) (input_named (in_ports ports)) (output_named (out_ports ports))
    (repeater_push row (packets_at u before) next) (in_row ports) (out_row ports) c.linked_input.result c.linked_output.result i o
    c.in-Some.is c.linked_input.ensures.row c.in-Some-linked_output.is c.linked_output.ensures.row
    (push_halts u ports mid row next (in_row ports i) (out_row ports o) before after kept c.requires.sound to did))

pub returns-clause-runs : goal.returns-clause-runs
unfolding pushes
returns-clause-runs g c =
    let row = c.args.self.now.row in
    let t = g.C.Ctx.tray c.args.ctx.now in
    let u : Used = g.C.Ctx.used c.args.ctx.now in
    let s = g.C.Ctx.tray c.repeat_some.new.ctx in
    let v : Used = g.C.Ctx.used c.repeat_some.new.ctx in
    let before = c.args.self.now.kept.items in
    let after = c.keep_some.new.kept.items in
    let next = c.args.self.now.next in
    let ports = c.args.ports.now in
    let mid = c.keep_some.new.ports in
    let to = c.repeat_some.new.ports in
    let i = c.in-Some.i in
    let o = c.in-Some-linked_output.o in
    let kept = c.in_ok-keep_some.ensures.did in
    let later = c.in_ok-next.next in
    let did : Did (repeat_some row (out_row ports o) (packets_at u after) next) t s u v mid to (Ok later) =
    did_as (ap (λ out. repeat_some row out (packets_at u after) next) (out_row_kept kept.same kept.rows o))
    (subst (λ places. Did (repeat_some row (out_row mid o) (packets_at u places) next) t s u v mid to (Ok later))
    c.as_slice.ensures.value c.in_ok-next.ensures.did) in
    runs_linked (repeater row (packets_at u before) next) (input_named (in_ports ports)) (output_named (out_ports ports))
    (repeater_push row (packets_at u before) next) (in_row ports) (out_row ports) c.linked_input.result c.linked_output.result i o
    c.in-Some.is c.linked_input.ensures.row c.in-Some-linked_output.is c.linked_output.ensures.row
    (push_done u ports mid row next (in_row ports i) (out_row ports o) before after kept c.requires.sound v to later did)

pub returns-clause-ready : goal.returns-clause-ready
returns-clause-ready g c =
    HasRow-stays c.args.self.now.row (g.C.Ctx.tray c.args.ctx.now) (g.C.Ctx.tray c.repeat_some.new.ctx)
    (did_stays c.in_ok-next.ensures.did) c.requires.ready
