use Rattle.std.proofs.Common.{◌≡◌, drop}
use Rattle.sn_app.specs.Apps.{sink_all, sink_push}
use Rattle.sn_app.specs.Loops.{Goes}
use Rattle.sn_app.specs.Ports.{in_ports, slots_of}
use Rattle.sn_app.specs.Reader.{on_each}
use Rattle.sn_app.specs.World.{nowhere, world}
use Rattle.sn_basic.proofs.sink.take_inputs.Given as goal

abbrev pub invariant-loop-i : goal.invariant-loop-i
invariant-loop-i g l = record {
  lent : g.C.Ctx.lender l.ctx ≡ g.C.Ctx.lender l.fn.ctx;
  goes : Goes (on_each (drop l.i (in_ports l.fn.ports)) (λ port. sink_all l.app port.1)) (sink_push l.app (in_ports l.fn.ports))
      (world (g.C.Ctx.tray l.fn.ctx) (g.C.Ctx.used l.fn.ctx) (slots_of l.fn.ports)) (world (g.C.Ctx.tray l.ctx) (g.C.Ctx.used l.ctx) (slots_of l.ports))
      nowhere nowhere l.fn.ports l.ports;
}
