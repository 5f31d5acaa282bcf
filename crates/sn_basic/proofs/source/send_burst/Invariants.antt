use Rattle.std.proofs.Common.{◌≡◌, ◌-◌}
use Rattle.sn_app.specs.Apps.{source_burst, source_one}
use Rattle.sn_app.specs.Loops.{Goes}
use Rattle.sn_app.specs.Ports.{out_row, slots_of}
use Rattle.sn_app.specs.Reader.{times}
use Rattle.sn_app.specs.World.{nowhere, world}
use Rattle.sn_basic.proofs.source.send_burst.Given as goal

abbrev pub invariant-loop-turn : goal.invariant-loop-turn
invariant-loop-turn g l = record {
  lent : g.C.Ctx.lender l.ctx ≡ g.C.Ctx.lender l.fn.ctx;
  goes : Goes (times (102 - l._turn) (source_one l.row l.size (out_row l.fn.ports l.o))) (source_burst l.row l.size (out_row l.fn.ports l.o))
      (world (g.C.Ctx.tray l.fn.ctx) (g.C.Ctx.used l.fn.ctx) (slots_of l.fn.ports)) (world (g.C.Ctx.tray l.ctx) (g.C.Ctx.used l.ctx) (slots_of l.ports))
      nowhere nowhere l.fn.ports l.ports;
}
