use Rattle.std.proofs.Common.{◌+◌, ◌≡◌, ◌<◌, ℕ, List, Option, length}
use Rattle.sn_link.specs.Link.{Line}
use Rattle.sn_packet.specs.Hold.{among}
use Rattle.sn_app.specs.Hands.{Leads, frees_each, packets_at}
use Rattle.sn_app.specs.Starts.{AreKept}
use Rattle.sn_app.specs.World.{IsSound, places_of, world}
use Rattle.sn_wiring.proofs.going.free_queued.Given as goal

abbrev pub invariant-loop-turn : goal.invariant-loop-turn
invariant-loop-turn g l = record {
  count : length l.link.queued + l._turn ≡ length l.fn.link.queued;
  lent : g.C.Ctx.lender l.ctx ≡ g.C.Ctx.lender l.fn.ctx;
  kept : AreKept (g.C.Ctx.used l.ctx) (among (places_of l.link.queued));
  same : (q : ℕ) → 0 < among (places_of l.link.queued) q → g.C.Ctx.used l.ctx q ≡ g.C.Ctx.used l.fn.ctx q;
  leads : (slots : List (Option Line))
      → IsSound (world (g.C.Ctx.tray l.fn.ctx) (g.C.Ctx.used l.fn.ctx) slots) (among (places_of l.fn.link.queued))
      → Leads (frees_each (packets_at (g.C.Ctx.used l.fn.ctx) (places_of l.link.queued)))
      (frees_each (packets_at (g.C.Ctx.used l.fn.ctx) (places_of l.fn.link.queued)))
      (world (g.C.Ctx.tray l.fn.ctx) (g.C.Ctx.used l.fn.ctx) slots) (world (g.C.Ctx.tray l.ctx) (g.C.Ctx.used l.ctx) slots)
      (among (places_of l.fn.link.queued)) (among (places_of l.link.queued));
}
