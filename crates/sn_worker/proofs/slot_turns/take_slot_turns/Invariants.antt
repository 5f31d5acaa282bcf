use Rattle.std.proofs.Common.{◌≡◌}
use Rattle.sn_worker.specs.SlotTurns.{one_slot_turn}
use Rattle.sn_worker.specs.Workers.{CanWork, kept_of, plan_in, slot_life_of, world_around}
use Rattle.sn_worker.proofs.Steps.{Stepped}
use Rattle.sn_worker.proofs.slot_turns.take_slot_turns.Given as goal

-- the worker can work on, and however the turns that are left run, all run from the start
abbrev pub invariant-loop-turn : goal.invariant-loop-turn
invariant-loop-turn g l = record {
  works : CanWork l.worker (g.C.Ctx.used l.ctx) (g.C.Ctx.tray l.ctx);
  plan : plan_in l.worker ≡ plan_in l.fn.worker;
  lent : g.C.Ctx.lender l.ctx ≡ g.C.Ctx.lender l.fn.ctx;
  stepped :
      Stepped l.fn.breaths (one_slot_turn (plan_in l.fn.worker) (g.C.Seated.floor (g.C.Ctx.lender l.fn.ctx)) l.fn.keep)
      (slot_life_of l.fn.worker l.fn.breathed (g.C.Ctx.used l.fn.ctx) (g.C.Ctx.tray l.fn.ctx))
      (world_around l.fn.worker (g.C.Ctx.used l.fn.ctx) (g.C.Ctx.tray l.fn.ctx)) (kept_of l.fn.worker) l.turn
      (slot_life_of l.worker l.breathed (g.C.Ctx.used l.ctx) (g.C.Ctx.tray l.ctx))
      (world_around l.worker (g.C.Ctx.used l.ctx) (g.C.Ctx.tray l.ctx)) (kept_of l.worker);
}
