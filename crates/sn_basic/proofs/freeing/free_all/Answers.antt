use Rattle.std.proofs.Common.{◌≡◌, ◌+◌, ◌<◌, ℕ, [], ◌∷◌, ◌∙◌, drop, get_or, refl, subst}
use Rattle.sn_packet.specs.Hold.{among}
use Rattle.sn_app.specs.Hands.{Leads, frees_each, packets_at}
use Rattle.sn_app.specs.Starts.{AreKept}
use Rattle.sn_app.specs.World.{world}
use Rattle.sn_app.proofs.Hands.{drop_next, drop_past, freed_all, freed_kept, freed_next, freed_same, leads_start}
use Rattle.sn_basic.proofs.freeing.free_all.Goals as goal

pub loop-place-init : goal.loop-place-init
loop-place-init g c = record {
  lent = refl;
  kept = c.requires;
  same = λ q k. refl;
  leads = λ slots h. leads_start (frees_each (packets_at (g.C.Ctx.used c.args.ctx.now) c.args.places.now))
      (world (g.C.Ctx.tray c.args.ctx.now) (g.C.Ctx.used c.args.ctx.now) slots) (among c.args.places.now) h;
}

pub loop-place-preserved : goal.loop-place-preserved
loop-place-preserved g c =
    let places = c.args.places.now in
    let i = c.loop-place.place-index in
    let place = get_or places i 0 in
    let rest = drop (i + 1) places in
    let before = c.loop-place.invariant in
    let start = g.C.Ctx.used c.args.ctx.now in
    let now = g.C.Ctx.used c.loop-place.ctx in
    let after = g.C.Ctx.used c.free.new.self in
    let is : drop i places ≡ place ∷ rest = drop_next places i 0 c.loop-place-test.true in
    let kept : AreKept now (among (place ∷ rest)) = subst (λ left. AreKept now (among left)) is before.kept in
    let same : (q : ℕ) → 0 < among (place ∷ rest) q → now q
    ≡ start q = subst (λ left. (q : ℕ) → 0 < among left q → now q ≡ start q) is before.same in
    record {
      lent = c.free.ensures.lent ∙ before.lent;
      kept = freed_kept place rest start now after same c.free.ensures.used kept;
      same = freed_same place rest start now after same c.free.ensures.used kept;
      leads = λ slots h. freed_next place rest start now after same c.free.ensures.used c.free.ensures.tray slots
          (subst (λ left. Leads (frees_each (packets_at start left)) (frees_each (packets_at start places))
          (world (g.C.Ctx.tray c.args.ctx.now) start slots)
          (world (g.C.Ctx.tray c.loop-place.ctx) now slots) (among places) (among left)) is (before.leads slots h));
    }

pub returns-clause-frees : goal.returns-clause-frees
returns-clause-frees g c = λ slots h.
    let places = c.args.places.now in
    let start = g.C.Ctx.used c.args.ctx.now in
    let over : drop c.loop-place.place-index places ≡ [] = drop_past places c.loop-place.place-index c.loop-place-test.false in
    freed_all start
    (subst (λ left. Leads (frees_each (packets_at start left)) (frees_each (packets_at start places))
    (world (g.C.Ctx.tray c.args.ctx.now) start slots)
    (world (g.C.Ctx.tray c.loop-place.ctx) (g.C.Ctx.used c.loop-place.ctx) slots) (among places) (among left)) over
    (c.loop-place.invariant.leads slots h))
