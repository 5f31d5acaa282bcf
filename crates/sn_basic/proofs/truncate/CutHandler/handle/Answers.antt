use Rattle.std.proofs.Common.{◌∷◌, [], Ok, subst, take}
use Rattle.sn_packet.specs.Hold.{among}
use Rattle.sn_packet.specs.Packet.{with_bytes}
use Rattle.sn_app.specs.Apps.{truncate_packet}
use Rattle.sn_app.specs.Calls.{bytes_at}
use Rattle.sn_app.specs.Ports.{out_row, slots_of}
use Rattle.sn_app.specs.Rows.{sends}
use Rattle.sn_app.specs.Runs.{Runs}
use Rattle.sn_app.specs.World.{nowhere, packet_at, world}
use Rattle.sn_app.proofs.Making.{rewritten_packet, runs_rewritten, runs_sends_counted, sound_rewritten}
use Rattle.sn_basic.proofs.truncate.CutHandler.handle.Goals as goal

pub send-requires-clause-sound : goal.send-requires-clause-sound
send-requires-clause-sound g c =
    sound_rewritten (g.C.Ctx.used c.args.ctx.now) (g.C.Ctx.used c.shorten.new.ctx) (slots_of c.args.ports.now) c.args.place
    (take c.args.self.now.most (bytes_at (g.C.Ctx.used c.args.ctx.now) c.args.place)) c.shorten.ensures.tray c.shorten.ensures.used c.requires.sound

pub returns-clause-runs : goal.returns-clause-runs
unfolding truncate_packet
returns-clause-runs g c =
    let u = g.C.Ctx.used c.args.ctx.now in
    let v = g.C.Ctx.used c.shorten.new.ctx in
    let slots = slots_of c.args.ports.now in
    let place = c.args.place in
    let bytes = take c.args.self.now.most (bytes_at u place) in
    let out = out_row c.args.ports.now c.args.self.now.o in
    let later = world (g.C.Ctx.tray c.send.new.ctx) (g.C.Ctx.used c.send.new.ctx) (slots_of c.send.new.ports) in
    let now = world (g.C.Ctx.tray c.shorten.new.ctx) v slots in
    let sent = subst (λ packet. Runs (sends out packet) now later (among (place ∷ [])) nowhere (Ok tt))
    (rewritten_packet u v slots place bytes c.shorten.ensures.tray c.shorten.ensures.used) c.send.ensures.runs in
    runs_rewritten u v slots place bytes c.shorten.ensures.tray c.shorten.ensures.used c.requires.sound
    (runs_sends_counted (g.C.Ctx.used c.send.new.ctx) (g.C.Ctx.used c.count.new.self) (slots_of c.send.new.ports) c.args.self.now.app out
    (with_bytes bytes (packet_at u place)) sent c.count.ensures.tray c.count.ensures.used)
