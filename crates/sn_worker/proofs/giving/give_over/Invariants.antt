use Rattle.std.proofs.Common.{◌≡◌, ◌-◌, ℕ, length}
use Rattle.sn_app.specs.Reader.{times}
use Rattle.sn_app.proofs.OnTrays.{Leads}
use Rattle.sn_worker.specs.Giving.{gives_one}
use Rattle.sn_worker.proofs.giving.give_over.Given as goal

-- the same packets are used as before, and however the rest goes on, so does the whole
abbrev pub invariant-loop-turn : goal.invariant-loop-turn
invariant-loop-turn g l = record {
  leads :
      Leads (times (length (g.C.Ctx.tray l.fn.ctx).free - l.turn) (gives_one l.fn.keep))
      (times (length (g.C.Ctx.tray l.fn.ctx).free) (gives_one l.fn.keep)) (g.C.Ctx.tray l.fn.ctx) (g.C.Ctx.tray l.ctx);
  used : (q : ℕ) → g.C.Ctx.used l.ctx q ≡ g.C.Ctx.used l.fn.ctx q;
  lent : g.C.Ctx.lender l.ctx ≡ g.C.Ctx.lender l.fn.ctx;
}
