use Rattle.std.proofs.Common.{◌≡◌, ◌-◌}
use Rattle.sn_app.specs.Apps.{sample_one}
use Rattle.sn_app.specs.Loops.{Goes}
use Rattle.sn_app.specs.Ports.{in_row, out_row, slots_of}
use Rattle.sn_app.specs.Reader.{stepping}
use Rattle.sn_app.specs.World.{nowhere, world}
use Rattle.sn_basic.proofs.sample.sample_some.Given as goal

abbrev pub invariant-loop-turn : goal.invariant-loop-turn
invariant-loop-turn g l = record {
  lent : g.C.Ctx.lender l.ctx ≡ g.C.Ctx.lender l.fn.ctx;
  goes : Goes (stepping (l.count - l._turn) (sample_one l.app l.n (in_row l.fn.ports l.i) (out_row l.fn.ports l.o)) l.now)
      (stepping l.count (sample_one l.app l.n (in_row l.fn.ports l.i) (out_row l.fn.ports l.o)) l.seen)
      (world (g.C.Ctx.tray l.fn.ctx) (g.C.Ctx.used l.fn.ctx) (slots_of l.fn.ports)) (world (g.C.Ctx.tray l.ctx) (g.C.Ctx.used l.ctx) (slots_of l.ports))
      nowhere nowhere l.fn.ports l.ports;
}
