use Rattle.std.proofs.Common.{◌≡◌, ◌≤◌, ◌+◌, ℕ, None}
use Rattle.sn_packet.specs.Hold.{frees_of, used_of}
use Rattle.sn_app.specs.Opening.{packets_below}
use Rattle.sn_app.proofs.bench.free_packets.Given as goal

abbrev pub invariant-loop-number : goal.invariant-loop-number
invariant-loop-number l = record {
  frees : frees_of l.hold ≡ packets_below l.number;
  used : (place : ℕ) → used_of l.hold place ≡ None;
  room : l.frees ≤ l.hold.room + l.number;
}
