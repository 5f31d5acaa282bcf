use Rattle.std.proofs.Common.{◌≡◌, ◌+◌, ◌-◌, ◌≤◌}
use Rattle.sn_core.specs.declared.events.Side.TheVariants.{Rx}
use Rattle.sn_app.specs.Apps.{receive_one}
use Rattle.sn_app.specs.Calls.{IsUp, known_at}
use Rattle.sn_app.specs.Loops.{Goes}
use Rattle.sn_app.specs.Ports.{out_row, slots_of}
use Rattle.sn_app.specs.Reader.{times}
use Rattle.sn_app.specs.World.{nowhere, world}
use Rattle.sn_edge.proofs.receiver.receive_some.Given as goal

abbrev pub invariant-loop-turn : goal.invariant-loop-turn
invariant-loop-turn g l = record {
  lent : g.C.Ctx.lender l.ctx ≡ g.C.Ctx.lender l.fn.ctx;
  up : IsUp l.lane Rx (g.C.Ctx.tray l.ctx);
  known : l.count ≤ known_at l.lane Rx (g.C.Ctx.tray l.ctx) + l._turn;
  goes : Goes (times (l.count - l._turn) (receive_one l.row l.lane (out_row l.fn.ports l.o)))
      (times l.count (receive_one l.row l.lane (out_row l.fn.ports l.o)))
      (world (g.C.Ctx.tray l.fn.ctx) (g.C.Ctx.used l.fn.ctx) (slots_of l.fn.ports))
      (world (g.C.Ctx.tray l.ctx) (g.C.Ctx.used l.ctx) (slots_of l.ports))
      nowhere nowhere l.fn.ports l.ports;
}
