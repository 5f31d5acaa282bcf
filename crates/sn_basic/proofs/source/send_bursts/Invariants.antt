use Rattle.std.proofs.Common.{◌≡◌, drop}
use Rattle.sn_app.specs.Apps.{source_burst, source_pull}
use Rattle.sn_app.specs.Loops.{Goes}
use Rattle.sn_app.specs.Ports.{out_ports, slots_of}
use Rattle.sn_app.specs.Reader.{on_each}
use Rattle.sn_app.specs.World.{nowhere, world}
use Rattle.sn_basic.proofs.source.send_bursts.Given as goal

abbrev pub invariant-loop-o : goal.invariant-loop-o
invariant-loop-o g l = record {
  lent : g.C.Ctx.lender l.ctx ≡ g.C.Ctx.lender l.fn.ctx;
  goes : Goes (on_each (drop l.o (out_ports l.fn.ports)) (λ port. source_burst l.row l.size port.1)) (source_pull l.row l.size (out_ports l.fn.ports))
      (world (g.C.Ctx.tray l.fn.ctx) (g.C.Ctx.used l.fn.ctx) (slots_of l.fn.ports)) (world (g.C.Ctx.tray l.ctx) (g.C.Ctx.used l.ctx) (slots_of l.ports))
      nowhere nowhere l.fn.ports l.ports;
}
