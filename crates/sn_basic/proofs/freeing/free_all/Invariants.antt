use Rattle.std.proofs.Common.{◌≡◌, ◌<◌, ℕ, List, Option, drop}
use Rattle.sn_link.specs.Link.{Line}
use Rattle.sn_packet.specs.Hold.{among}
use Rattle.sn_app.specs.Hands.{Leads, frees_each, packets_at}
use Rattle.sn_app.specs.Starts.{AreKept}
use Rattle.sn_app.specs.World.{IsSound, world}
use Rattle.sn_basic.proofs.freeing.free_all.Given as goal

abbrev pub invariant-loop-place : goal.invariant-loop-place
invariant-loop-place g l = record {
  lent : g.C.Ctx.lender l.ctx ≡ g.C.Ctx.lender l.fn.ctx;
  kept : AreKept (g.C.Ctx.used l.ctx) (among (drop l.place-index l.places));
  same : (q : ℕ) → 0 < among (drop l.place-index l.places) q → g.C.Ctx.used l.ctx q ≡ g.C.Ctx.used l.fn.ctx q;
  leads : (slots : List (Option Line)) → IsSound (world (g.C.Ctx.tray l.fn.ctx) (g.C.Ctx.used l.fn.ctx) slots) (among l.places)
      → Leads (frees_each (packets_at (g.C.Ctx.used l.fn.ctx) (drop l.place-index l.places)))
      (frees_each (packets_at (g.C.Ctx.used l.fn.ctx) l.places))
      (world (g.C.Ctx.tray l.fn.ctx) (g.C.Ctx.used l.fn.ctx) slots) (world (g.C.Ctx.tray l.ctx) (g.C.Ctx.used l.ctx) slots)
      (among l.places) (among (drop l.place-index l.places));
}
