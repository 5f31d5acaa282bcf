use Rattle.std.proofs.Common.{◌≡◌, ◌-◌}
use Rattle.sn_pcap.specs.Places.{IsPlace, payloads_at}
use Rattle.sn_app.specs.Apps.{read_one}
use Rattle.sn_app.specs.Desk.{capture_at}
use Rattle.sn_app.specs.Loops.{Goes}
use Rattle.sn_app.specs.Ports.{out_row, slots_of}
use Rattle.sn_app.specs.Reader.{stepping}
use Rattle.sn_app.specs.World.{nowhere, world}
use Rattle.sn_edge.proofs.pcap_reader.read_some.Given as goal

abbrev pub invariant-loop-turn : goal.invariant-loop-turn
invariant-loop-turn g l = record {
  lent : g.C.Ctx.lender l.ctx ≡ g.C.Ctx.lender l.fn.ctx;
  place : IsPlace (capture_at l.capture (g.C.Ctx.tray l.fn.ctx)) l.now;
  goes : Goes
      (stepping (102 - l._turn) (read_one l.row (out_row l.fn.ports l.o))
      (payloads_at (capture_at l.capture (g.C.Ctx.tray l.fn.ctx)) l.now))
      (stepping 102 (read_one l.row (out_row l.fn.ports l.o)) (payloads_at (capture_at l.capture (g.C.Ctx.tray l.fn.ctx)) l.at))
      (world (g.C.Ctx.tray l.fn.ctx) (g.C.Ctx.used l.fn.ctx) (slots_of l.fn.ports))
      (world (g.C.Ctx.tray l.ctx) (g.C.Ctx.used l.ctx) (slots_of l.ports))
      nowhere nowhere l.fn.ports l.ports;
}
