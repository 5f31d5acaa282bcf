use Rattle.std.proofs.Common.{◌≡◌, ◌-◌}
use Rattle.sn_packet.specs.Hold.{used_of}
use Rattle.sn_app.specs.Bench.{tray_of}
use Rattle.sn_app.specs.Calls.{LeavesEnds}
use Rattle.sn_app.specs.Reader.{times}
use Rattle.sn_app.specs.Rows.{most_refilled, refill_one}
use Rattle.sn_app.proofs.Claiming.{Claiming}
use Rattle.sn_app.proofs.OnTrays.{Leads}
use Rattle.sn_app.proofs.bench.Bench.refill.Given as goal

abbrev pub invariant-loop-turn : goal.invariant-loop-turn
invariant-loop-turn l = record {
  leads : Leads (times (most_refilled - l._turn) refill_one) (times most_refilled refill_one)
      (tray_of l.fn.self) (tray_of l.self);
  claims : Claiming most_refilled l._turn l.fn.self l.self;
  used : used_of l.self.held ≡ used_of l.fn.self.held;
  leaves : LeavesEnds (tray_of l.fn.self) (tray_of l.self);
}
