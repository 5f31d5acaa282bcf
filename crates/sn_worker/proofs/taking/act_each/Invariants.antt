use Rattle.std.proofs.Common.{◌≡◌, Ok, take}
use Rattle.sn_actions.specs.Plains.{apply_all}
use Rattle.sn_breath.proofs.Folds.{Onward}
use Rattle.sn_network.specs.Acting.{acts}
use Rattle.sn_network.specs.Networks.{IsStanding, kept_by, plain_in, shown, world_of}
use Rattle.sn_worker.specs.Plans.{FindsAll}
use Rattle.sn_worker.proofs.taking.act_each.Given as goal

-- the actions before this one were applied, and however those that are left run, all run from the start
abbrev pub invariant-loop-i : goal.invariant-loop-i
invariant-loop-i g l = record {
  stands : IsStanding l.network (g.C.Ctx.used l.ctx) (g.C.Ctx.tray l.ctx);
  lent : g.C.Ctx.lender l.ctx ≡ g.C.Ctx.lender l.fn.ctx;
  finds : FindsAll l.fn.actions (g.C.Ctx.tray l.ctx);
  plain : apply_all (take l.i l.fn.actions) (plain_in l.fn.network) ≡ Ok (plain_in l.network);
  onward :
      Onward l.fn.actions acts (shown l.fn.network (g.C.Ctx.used l.fn.ctx) (g.C.Ctx.tray l.fn.ctx))
      (world_of l.fn.network (g.C.Ctx.used l.fn.ctx) (g.C.Ctx.tray l.fn.ctx)) (kept_by l.fn.network) l.i
      (shown l.network (g.C.Ctx.used l.ctx) (g.C.Ctx.tray l.ctx)) (world_of l.network (g.C.Ctx.used l.ctx) (g.C.Ctx.tray l.ctx))
      (kept_by l.network);
}
