use Rattle.std.proofs.Common.{ℕ, true, List, Ok, sym, subst}
use Rattle.sn_packet.specs.Hold.{among}
use Rattle.sn_app.specs.Apps.{stops}
use Rattle.sn_app.specs.Hands.{frees_each, packets_at}
use Rattle.sn_app.specs.Runs.{Runs}
use Rattle.sn_app.specs.Starts.{AreKept}
use Rattle.sn_app.specs.World.{IsSound, Used, nowhere, world}
use Rattle.sn_basic.proofs.repeater.RepeaterApp.stop.Goals as goal

pub free_all-requires : goal.free_all-requires
free_all-requires g c =
    subst (λ places. AreKept (g.C.Ctx.used c.args.ctx.now) (among places)) (sym c.as_slice.ensures.value) c.requires.kept

pub returns-clause-runs : goal.returns-clause-runs
unfolding stops frees_each
returns-clause-runs g c = λ slots h.
    let t = g.C.Ctx.tray c.args.ctx.now in
    let u : Used = g.C.Ctx.used c.args.ctx.now in
    let s = g.C.Ctx.tray c.free_all.new.ctx in
    let v : Used = g.C.Ctx.used c.free_all.new.ctx in
    let P : List ℕ → Type 0 = λ places. IsSound (world t u slots) (among places)
    → Runs (frees_each (packets_at u places)) (world t u slots) (world s v slots) (among places) nowhere (Ok true) in
    subst P c.as_slice.ensures.value (c.free_all.ensures.frees slots) h
