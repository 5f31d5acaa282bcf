use Rattle.std.proofs.Common.{◌≡◌}
use Rattle.sn_network.specs.Calling.{pull_app}
use Rattle.sn_network.specs.Networks.{CanBreathe, kept_by, plain_in, shown, world_of}
use Rattle.sn_network.specs.Orders.{pull_order}
use Rattle.sn_breath.proofs.Folds.{Onward}
use Rattle.sn_breath.proofs.breath.pull_all.Given as goal

-- the network can breathe, and however the calls that are left run, all run from the start
abbrev pub invariant-loop-i : goal.invariant-loop-i
invariant-loop-i g l = record {
  ready : CanBreathe l.network (g.C.Ctx.used l.ctx) (g.C.Ctx.tray l.ctx);
  plain : plain_in l.network ≡ plain_in l.fn.network;
  lent : g.C.Ctx.lender l.ctx ≡ g.C.Ctx.lender l.fn.ctx;
  onward :
      Onward (pull_order (plain_in l.fn.network)) pull_app (shown l.fn.network (g.C.Ctx.used l.fn.ctx) (g.C.Ctx.tray l.fn.ctx))
      (world_of l.fn.network (g.C.Ctx.used l.fn.ctx) (g.C.Ctx.tray l.fn.ctx)) (kept_by l.fn.network) l.i
      (shown l.network (g.C.Ctx.used l.ctx) (g.C.Ctx.tray l.ctx)) (world_of l.network (g.C.Ctx.used l.ctx) (g.C.Ctx.tray l.ctx))
      (kept_by l.network);
}
