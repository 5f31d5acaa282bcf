use Rattle.std.proofs.Common.{◌≡◌, ◌-◌}
use Rattle.sn_app.specs.Apps.{next_of, write_packet}
use Rattle.sn_app.specs.Loops.{Goes}
use Rattle.sn_app.specs.Ports.{in_row, slots_of}
use Rattle.sn_app.specs.Reader.{times}
use Rattle.sn_app.specs.World.{nowhere, world}
use Rattle.sn_edge.proofs.pcap_writer.append_some.Given as goal

abbrev pub invariant-loop-turn : goal.invariant-loop-turn
invariant-loop-turn g l = record {
  lent : g.C.Ctx.lender l.ctx ≡ g.C.Ctx.lender l.fn.ctx;
  goes : Goes (times (l.count - l._turn) (next_of (in_row l.fn.ports l.i) (write_packet l.row l.file)))
      (times l.count (next_of (in_row l.fn.ports l.i) (write_packet l.row l.file)))
      (world (g.C.Ctx.tray l.fn.ctx) (g.C.Ctx.used l.fn.ctx) (slots_of l.fn.ports))
      (world (g.C.Ctx.tray l.ctx) (g.C.Ctx.used l.ctx) (slots_of l.ports))
      nowhere nowhere l.fn.ports l.ports;
}
