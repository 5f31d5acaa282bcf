use Rattle.std.proofs.Common.{◌≡◌, drop}
use Rattle.sn_app.specs.Apps.{split_input, split_push}
use Rattle.sn_app.specs.Loops.{Goes}
use Rattle.sn_app.specs.Ports.{in_ports, out_ports, slots_of}
use Rattle.sn_app.specs.Reader.{on_each}
use Rattle.sn_app.specs.World.{nowhere, world}
use Rattle.sn_basic.proofs.split.split_inputs.Given as goal

abbrev pub invariant-loop-i : goal.invariant-loop-i
invariant-loop-i g l = record {
  lent : g.C.Ctx.lender l.ctx ≡ g.C.Ctx.lender l.fn.ctx;
  goes : Goes (on_each (drop l.i (in_ports l.fn.ports)) (λ port. split_input l.app (out_ports l.fn.ports) port.1)) (split_push l.app (in_ports l.fn.ports) (out_ports l.fn.ports))
      (world (g.C.Ctx.tray l.fn.ctx) (g.C.Ctx.used l.fn.ctx) (slots_of l.fn.ports)) (world (g.C.Ctx.tray l.ctx) (g.C.Ctx.used l.ctx) (slots_of l.ports))
      nowhere nowhere l.fn.ports l.ports;
}
