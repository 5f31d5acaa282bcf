use Rattle.std.proofs.Common.{◌≡◌, ◌∙◌, ◌%◌, ◌==◌, ◌∷◌, [], true, false, Ok, ap, subst, sym}
use Rattle.std.proofs.lemmas.Bool.{eq-eqb, ne_eqb}
use Rattle.sn_link.specs.Counts.{raised}
use Rattle.sn_packet.specs.Hold.{among}
use Rattle.sn_app.specs.Apps.{sample_packet, sends_or_drops}
use Rattle.sn_app.specs.Ports.{out_row, slots_of}
use Rattle.sn_app.specs.Runs.{Runs}
use Rattle.sn_app.specs.World.{nowhere, packet_at, world}
use Rattle.sn_app.specs.declared.counters.Counter.TheVariants.{Dropped}
use Rattle.sn_app.proofs.Calling.{runs_free}
use Rattle.sn_app.proofs.Making.{runs_frees_counted, runs_sends_counted}
use Rattle.sn_basic.proofs.sample.PickHandler.handle.Goals as goal

pub returns-then-saturating_add-self-eq0-clause-runs : goal.returns-then-saturating_add-self-eq0-clause-runs
unfolding sample_packet sends_or_drops
returns-then-saturating_add-self-eq0-clause-runs g c =
    let packet = packet_at (g.C.Ctx.used c.args.ctx.now) c.args.place in
    let out = out_row c.args.ports.now c.args.self.now.o in
    let n = c.args.self.now.n in
    let w = world (g.C.Ctx.tray c.args.ctx.now) (g.C.Ctx.used c.args.ctx.now) (slots_of c.args.ports.now) in
    let z = world (g.C.Ctx.tray c.count.new.self) (g.C.Ctx.used c.count.new.self) (slots_of c.send.new.ports) in
    let yes : (raised 1 c.args.self.now.seen % n == 0) ≡ true =
    ap (λ m. m % n == 0) (sym c.saturating_add.ensures) ∙ eq-eqb (c.saturating_add.result % n) 0 c.if-saturating_add-self-eq0.true in
    subst (λ b. Runs (sends_or_drops b c.args.self.now.app out packet) w z (among (c.args.place ∷ [])) nowhere (Ok true)) (sym yes)
    (runs_sends_counted (g.C.Ctx.used c.send.new.ctx) (g.C.Ctx.used c.count.new.self) (slots_of c.send.new.ports) c.args.self.now.app out packet
    c.send.ensures.runs c.count.ensures.tray c.count.ensures.used)

pub returns-clause-runs : goal.returns-clause-runs
unfolding sample_packet sends_or_drops
returns-clause-runs g c =
    let u = g.C.Ctx.used c.args.ctx.now in
    let v = g.C.Ctx.used c.free.new.self in
    let slots = slots_of c.args.ports.now in
    let packet = packet_at u c.args.place in
    let out = out_row c.args.ports.now c.args.self.now.o in
    let n = c.args.self.now.n in
    let w = world (g.C.Ctx.tray c.args.ctx.now) u slots in
    let z = world (g.C.Ctx.tray c.count-2.new.self) (g.C.Ctx.used c.count-2.new.self) slots in
    let no : (raised 1 c.args.self.now.seen % n == 0) ≡ false =
    ap (λ m. m % n == 0) (sym c.saturating_add.ensures) ∙ ne_eqb (c.saturating_add.result % n) 0 c.if-saturating_add-self-eq0.false in
    subst (λ b. Runs (sends_or_drops b c.args.self.now.app out packet) w z (among (c.args.place ∷ [])) nowhere (Ok true)) (sym no)
    (runs_frees_counted v (g.C.Ctx.used c.count-2.new.self) slots c.args.self.now.app Dropped packet
    (runs_free u v slots c.args.place c.requires.sound c.free.ensures.tray c.free.ensures.used) c.count-2.ensures.tray c.count-2.ensures.used)
