use Rattle.std.proofs.Common.{◌≡◌, ◌<◌, ℕ, ◌∷◌, drop}
use Rattle.sn_packet.specs.Hold.{among}
use Rattle.sn_app.specs.Apps.{tee_sends}
use Rattle.sn_app.specs.Hands.{names_at}
use Rattle.sn_app.specs.Loops.{Goes}
use Rattle.sn_app.specs.Ports.{out_ports, slots_of}
use Rattle.sn_app.specs.World.{packet_at, world}
use Rattle.sn_basic.proofs.tee.send_copies.Given as goal

abbrev pub invariant-loop-o : goal.invariant-loop-o
invariant-loop-o g l = record {
  lent : g.C.Ctx.lender l.ctx ≡ g.C.Ctx.lender l.fn.ctx;
  same : (q : ℕ) → 0 < among (l.place ∷ drop l.o l.copies) q → g.C.Ctx.used l.ctx q ≡ g.C.Ctx.used l.fn.ctx q;
  goes : Goes (tee_sends (names_at (g.C.Ctx.used l.fn.ctx) (drop l.o l.copies)) (packet_at (g.C.Ctx.used l.fn.ctx) l.place)
      (drop l.o (out_ports l.fn.ports)))
      (tee_sends (names_at (g.C.Ctx.used l.fn.ctx) l.copies) (packet_at (g.C.Ctx.used l.fn.ctx) l.place) (out_ports l.fn.ports))
      (world (g.C.Ctx.tray l.fn.ctx) (g.C.Ctx.used l.fn.ctx) (slots_of l.fn.ports))
      (world (g.C.Ctx.tray l.ctx) (g.C.Ctx.used l.ctx) (slots_of l.ports))
      (among (l.place ∷ l.copies)) (among (l.place ∷ drop l.o l.copies)) l.fn.ports l.ports;
}
