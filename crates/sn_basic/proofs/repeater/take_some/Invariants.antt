use Rattle.std.proofs.Common.{◌≡◌, ◌+◌, ◌-◌, length}
use Rattle.std.specs.Vec.{vec_capacity}
use Rattle.sn_packet.specs.Hold.{among}
use Rattle.sn_app.specs.Apps.{keep_one}
use Rattle.sn_app.specs.Hands.{packets_at}
use Rattle.sn_app.specs.Loops.{Goes}
use Rattle.sn_app.specs.Ports.{in_row, slots_of}
use Rattle.sn_app.specs.Reader.{stepping}
use Rattle.sn_app.specs.World.{world}
use Rattle.sn_basic.proofs.repeater.take_some.Given as goal

abbrev pub invariant-loop-turn : goal.invariant-loop-turn
invariant-loop-turn g l = record {
  most : length l.kept.items ≡ length l.fn.kept.items + l._turn;
  room : vec_capacity l.kept ≡ vec_capacity l.fn.kept;
  goes : Goes (stepping (l.count - l._turn) (keep_one (in_row l.fn.ports l.i)) (packets_at (g.C.Ctx.used l.ctx) l.kept.items))
      (stepping l.count (keep_one (in_row l.fn.ports l.i)) (packets_at (g.C.Ctx.used l.ctx) l.fn.kept.items))
      (world (g.C.Ctx.tray l.ctx) (g.C.Ctx.used l.ctx) (slots_of l.fn.ports))
      (world (g.C.Ctx.tray l.ctx) (g.C.Ctx.used l.ctx) (slots_of l.ports))
      (among l.fn.kept.items) (among l.kept.items) l.fn.ports l.ports;
}
