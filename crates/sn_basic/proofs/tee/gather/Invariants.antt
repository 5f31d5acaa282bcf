use Rattle.std.proofs.Common.{◌≡◌, ◌+◌, ◌-◌, Bool, [], length}
use Rattle.std.specs.Vec.{vec_capacity}
use Rattle.sn_packet.specs.Hold.{among}
use Rattle.sn_app.specs.Apps.{tee_gather}
use Rattle.sn_app.specs.Hands.{Leads, Names, names_at}
use Rattle.sn_app.specs.Ports.{out_ports, slots_of}
use Rattle.sn_app.specs.Reader.{Meaning}
use Rattle.sn_app.specs.World.{nowhere, world}
use Rattle.sn_basic.proofs.tee.gather.Given as goal

abbrev pub invariant-loop-turn : goal.invariant-loop-turn
invariant-loop-turn g l = record {
  lent : g.C.Ctx.lender l.ctx ≡ g.C.Ctx.lender l.fn.ctx;
  room : vec_capacity l.copies ≡ vec_capacity l.fn.copies;
  count : length l.copies.items + 1 ≡ l._turn;
  leads : (next : Names → Meaning Bool)
      → Leads (tee_gather (length (out_ports l.ports) - l._turn) l.app (names_at (g.C.Ctx.used l.ctx) l.copies.items) next)
      (tee_gather (length (out_ports l.ports) - 1) l.app [] next)
      (world (g.C.Ctx.tray l.fn.ctx) (g.C.Ctx.used l.fn.ctx) (slots_of l.ports))
      (world (g.C.Ctx.tray l.ctx) (g.C.Ctx.used l.ctx) (slots_of l.ports))
      nowhere (among l.copies.items);
}
