use Rattle.std.proofs.Common.{◌≡◌, ◌-◌}
use Rattle.std.specs.Vec.{vec_capacity}
use Rattle.sn_app.specs.Apps.{tee_input}
use Rattle.sn_app.specs.Loops.{Goes}
use Rattle.sn_app.specs.Ports.{in_row, out_ports, slots_of}
use Rattle.sn_app.specs.World.{nowhere, world}
use Rattle.sn_basic.proofs.tee.copy_input.Given as goal

abbrev pub invariant-loop-turn : goal.invariant-loop-turn
invariant-loop-turn g l = record {
  lent : g.C.Ctx.lender l.ctx ≡ g.C.Ctx.lender l.fn.ctx;
  room : vec_capacity l.copies ≡ vec_capacity l.fn.copies;
  goes : Goes (tee_input l.app (out_ports l.fn.ports) (in_row l.fn.ports l.i) (l.room - l.turn))
      (tee_input l.app (out_ports l.fn.ports) (in_row l.fn.ports l.i) l.room)
      (world (g.C.Ctx.tray l.fn.ctx) (g.C.Ctx.used l.fn.ctx) (slots_of l.fn.ports))
      (world (g.C.Ctx.tray l.ctx) (g.C.Ctx.used l.ctx) (slots_of l.ports))
      nowhere nowhere l.fn.ports l.ports;
}
