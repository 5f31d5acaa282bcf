use Rattle.std.proofs.Common.{◌≡◌, ◌+◌}
use Rattle.sn_breath.proofs.Folds.{Onward}
use Rattle.sn_worker.specs.Lives.{next_actions, takes}
use Rattle.sn_worker.specs.Workers.{CanWork, kept_of, life_of, plan_in, world_around}
use Rattle.sn_worker.proofs.taking.take_due.Given as goal

-- so many actions were taken, and however those that are left are taken, all are from the start
abbrev pub invariant-loop-taken : goal.invariant-loop-taken
invariant-loop-taken g l = record {
  works : CanWork l.worker (g.C.Ctx.used l.ctx) (g.C.Ctx.tray l.ctx);
  plan : plan_in l.worker ≡ plan_in l.fn.worker;
  spent : l.worker.spent ≡ l.fn.worker.spent;
  lent : g.C.Ctx.lender l.ctx ≡ g.C.Ctx.lender l.fn.ctx;
  taken : l.worker.taken ≡ l.fn.worker.taken + l.taken;
  onward :
      Onward (next_actions (plan_in l.fn.worker) l.fn.due l.fn.worker.taken) takes
      (life_of l.fn.worker (g.C.Ctx.used l.fn.ctx) (g.C.Ctx.tray l.fn.ctx))
      (world_around l.fn.worker (g.C.Ctx.used l.fn.ctx) (g.C.Ctx.tray l.fn.ctx)) (kept_of l.fn.worker) l.taken
      (life_of l.worker (g.C.Ctx.used l.ctx) (g.C.Ctx.tray l.ctx))
      (world_around l.worker (g.C.Ctx.used l.ctx) (g.C.Ctx.tray l.ctx)) (kept_of l.worker);
}
