use Rattle.std.proofs.Common.{◌≡◌, ◌+◌, ◌<◌, ℕ, ◌∷◌, ◌∙◌, ap, arith, length, refl, subst, sym}
use Rattle.sn_link.specs.Link.{Line, received}
use Rattle.sn_packet.specs.Hold.{among}
use Rattle.sn_app.specs.Hands.{Leads, frees_each, packets_at}
use Rattle.sn_app.specs.Starts.{AreKept}
use Rattle.sn_app.specs.World.{places_of, world}
use Rattle.sn_app.proofs.Hands.{among_here, freed_all, freed_kept, freed_next, freed_same, leads_start}
use Rattle.sn_wiring.proofs.Queued.{front_first, no_front, no_places, one_fewer}
use Rattle.sn_wiring.proofs.going.free_queued.Goals as goal

pub loop-turn-init : goal.loop-turn-init
loop-turn-init g c = record {
  count = omega arith;
  lent = refl;
  kept = c.requires;
  same = λ q k. refl;
  leads = λ slots h. leads_start (frees_each (packets_at (g.C.Ctx.used c.args.ctx.now) (places_of c.args.link.queued)))
      (world (g.C.Ctx.tray c.args.ctx.now) (g.C.Ctx.used c.args.ctx.now) slots) (among (places_of c.args.link.queued)) h;
}

pub free-requires : goal.free-requires
free-requires g c =
    let line = c.loop-turn.link in
    let place = c.in-Some.place in
    let rest = places_of (received line).queued in
    let is : places_of line.queued ≡ place ∷ rest = front_first line place c.in-Some.ensures.place in
    let some : 0 < among (places_of line.queued) place =
    subst (λ places. 0 < among places place) (sym is) (omega (arith, among_here place rest)) in
    c.loop-turn.invariant.kept.in_use place some

pub loop-turn-preserved : goal.loop-turn-preserved
loop-turn-preserved g c =
    let all = places_of c.args.link.queued in
    let line = c.loop-turn.link in
    let place = c.in-Some.place in
    let rest = places_of c.receive.new.self.queued in
    let before = c.loop-turn.invariant in
    let start = g.C.Ctx.used c.args.ctx.now in
    let now = g.C.Ctx.used c.loop-turn.ctx in
    let after = g.C.Ctx.used c.free.new.self in
    let left : received line ≡ c.receive.new.self = sym c.in-Some.ensures.link in
    let is : places_of line.queued ≡ place ∷ rest =
    front_first line place c.in-Some.ensures.place ∙ ap (λ (l : Line). place ∷ places_of l.queued) left in
    let count : length line.queued ≡ length c.receive.new.self.queued + 1 =
    one_fewer line place c.in-Some.ensures.place ∙ ap (λ (l : Line). length l.queued + 1) left in
    let kept : AreKept now (among (place ∷ rest)) = subst (λ places. AreKept now (among places)) is before.kept in
    let same : (q : ℕ) → 0 < among (place ∷ rest) q → now q ≡ start q =
    subst (λ places. (q : ℕ) → 0 < among places q → now q ≡ start q) is before.same in
    record {
      count = omega (arith, count, before.count);
      lent = c.free.ensures.lent ∙ before.lent;
      kept = freed_kept place rest start now after same c.free.ensures.used kept;
      same = freed_same place rest start now after same c.free.ensures.used kept;
      leads = λ slots h. freed_next place rest start now after same c.free.ensures.used c.free.ensures.tray slots
          (subst (λ places. Leads (frees_each (packets_at start places)) (frees_each (packets_at start all))
          (world (g.C.Ctx.tray c.args.ctx.now) start slots)
          (world (g.C.Ctx.tray c.loop-turn.ctx) now slots) (among all) (among places)) is (before.leads slots h));
    }

pub unreachable-requires : goal.unreachable-requires
unreachable-requires g c =
    omega (
      arith,
      no_front c.loop-turn.link c.in_default.ensures.place,
      c.loop-turn.invariant.count,
      c.loop-turn-test.true,
      c.nreadable-turn-end.ensures.value,
    )

pub returns-clause-frees : goal.returns-clause-frees
returns-clause-frees g c = λ slots h.
    let all = places_of c.args.link.queued in
    let queued = c.loop-turn.link.queued in
    let start = g.C.Ctx.used c.args.ctx.now in
    let none : length queued ≡ 0 =
    omega (arith, c.loop-turn.invariant.count, c.loop-turn-test.false, c.nreadable-turn-end.ensures.value) in
    freed_all start
    (subst (λ places. Leads (frees_each (packets_at start places)) (frees_each (packets_at start all))
    (world (g.C.Ctx.tray c.args.ctx.now) start slots)
    (world (g.C.Ctx.tray c.loop-turn.ctx) (g.C.Ctx.used c.loop-turn.ctx) slots) (among all) (among places))
    (no_places queued none)
    (c.loop-turn.invariant.leads slots h))
