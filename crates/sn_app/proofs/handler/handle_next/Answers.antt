use Rattle.std.proofs.Common.{◌∷◌, [], subst}
use Rattle.sn_packet.specs.Hold.{among}
use Rattle.sn_app.specs.Ports.{in_row, slots_of}
use Rattle.sn_app.specs.Runs.{Runs}
use Rattle.sn_app.specs.World.{nowhere, packet_at, world}
use Rattle.sn_app.proofs.Handling.{did_next, did_next_none, sound_next, sound_without}
use Rattle.sn_app.proofs.Looping.{inputs_kept, outputs_kept}
use Rattle.sn_app.proofs.handler.handle_next.Goals as goal

pub handle-requires-clause-ready : goal.handle-requires-clause-ready
handle-requires-clause-ready g c = record {
  counts = c.requires.ready.counts;
  ins = inputs_kept c.take.ensures.same c.take.ensures.rows c.requires.ready.ins;
  outs = outputs_kept c.take.ensures.same c.take.ensures.rows c.requires.ready.outs;
  sound = sound_without
      (sound_next (in_row c.args.ports.now c.args.i) c.take.result c.take.ensures.runs c.take.ensures.same c.take.ensures.rows
      (g.H.Handler.handles c.args.handler.now c.args.ports.now) c.in-Some.place c.in-Some.is c.requires.ready.sound);
}

pub handle-requires-clause-sound : goal.handle-requires-clause-sound
handle-requires-clause-sound g c =
    sound_next (in_row c.args.ports.now c.args.i) c.take.result c.take.ensures.runs c.take.ensures.same c.take.ensures.rows
    (g.H.Handler.handles c.args.handler.now c.args.ports.now) c.in-Some.place c.in-Some.is c.requires.ready.sound

pub returns-in-None-clause-did : goal.returns-in-None-clause-did
returns-in-None-clause-did g c =
    did_next_none (in_row c.args.ports.now c.args.i) c.take.result c.take.ensures.runs c.take.ensures.same c.take.ensures.rows
    (g.H.Handler.handles c.args.handler.now c.args.ports.now) c.in-None.is

pub returns-in-Some-clause-did : goal.returns-in-Some-clause-did
returns-in-Some-clause-did g c =
    let t = g.C.Ctx.tray c.args.ctx.now in
    let u = g.C.Ctx.used c.args.ctx.now in
    let later = g.met.H.Handler.handles_later c.args.handler.now c.args.ports.now c.take.new.ports c.take.ensures.same c.take.ensures.rows in
    did_next (in_row c.args.ports.now c.args.i) c.take.result c.take.ensures.runs c.take.ensures.same c.take.ensures.rows
    (g.H.Handler.handles c.args.handler.now c.args.ports.now) c.in-Some.place c.in-Some.is
    (subst (λ m. Runs (m (packet_at u c.in-Some.place)) (world t u (slots_of c.take.new.ports))
    (world (g.C.Ctx.tray c.handle.new.ctx) (g.C.Ctx.used c.handle.new.ctx) (slots_of c.handle.new.ports)) (among (c.in-Some.place ∷ [])) nowhere c.handle.result)
    later c.handle.ensures.runs)
    c.handle.ensures.same c.handle.ensures.rows
