use Rattle.std.proofs.Common.{◌≡◌, ◌-◌, ◌<◌, ℕ, length}
use Rattle.sn_packet.specs.Hold.{among}
use Rattle.sn_app.specs.Apps.{repeat_one}
use Rattle.sn_app.specs.Hands.{packets_at}
use Rattle.sn_app.specs.Loops.{Goes}
use Rattle.sn_app.specs.Ports.{out_row, slots_of}
use Rattle.sn_app.specs.Reader.{stepping}
use Rattle.sn_app.specs.World.{IsSound, nowhere, world}
use Rattle.sn_basic.proofs.repeater.repeat_times.Given as goal

abbrev pub invariant-loop-turn : goal.invariant-loop-turn
invariant-loop-turn g l = record {
  lent : g.C.Ctx.lender l.ctx ≡ g.C.Ctx.lender l.fn.ctx;
  next : l.now < length l.kept;
  same : (q : ℕ) → 0 < among l.kept q → g.C.Ctx.used l.ctx q ≡ g.C.Ctx.used l.fn.ctx q;
  sound : IsSound (world (g.C.Ctx.tray l.ctx) (g.C.Ctx.used l.ctx) (slots_of l.ports)) (among l.kept);
  goes : Goes (stepping (l.count - l._turn)
      (repeat_one l.app (out_row l.fn.ports l.o) (packets_at (g.C.Ctx.used l.fn.ctx) l.kept)) l.now)
      (stepping l.count (repeat_one l.app (out_row l.fn.ports l.o) (packets_at (g.C.Ctx.used l.fn.ctx) l.kept)) l.next)
      (world (g.C.Ctx.tray l.fn.ctx) (g.C.Ctx.used l.fn.ctx) (slots_of l.fn.ports))
      (world (g.C.Ctx.tray l.ctx) (g.C.Ctx.used l.ctx) (slots_of l.ports)) nowhere nowhere l.fn.ports l.ports;
}
