use Rattle.std.proofs.Common.{◌≡◌, drop}
use Rattle.sn_wiring.proofs.Losses.{all_kept}
use Rattle.sn_wiring.proofs.losing.lose_links.Given as goal

abbrev pub invariant-loop-key : goal.invariant-loop-key
invariant-loop-key g l = record {
  left : all_kept (drop l.key l.fn.links.slots) (g.C.Ctx.tray l.ctx) ≡ all_kept l.fn.links.slots (g.C.Ctx.tray l.fn.ctx);
  log : (g.C.Ctx.tray l.ctx).log ≡ (g.C.Ctx.tray l.fn.ctx).log;
  used : g.C.Ctx.used l.ctx ≡ g.C.Ctx.used l.fn.ctx;
  lent : g.C.Ctx.lender l.ctx ≡ g.C.Ctx.lender l.fn.ctx;
}
