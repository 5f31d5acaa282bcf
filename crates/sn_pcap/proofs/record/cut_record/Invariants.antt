-- What is left at the place makes up what there is at the first, and the number counts what was passed.
use Rattle.std.proofs.Common.{◌≡◌, ◌+◌, ◌-◌, ◌≤◌, length}
use Rattle.sn_pcap.specs.Places.{payloads_at, extent}
use Rattle.sn_pcap.proofs.record.cut_record.Given as goal

abbrev pub invariant-loop-at : goal.invariant-loop-at
invariant-loop-at l = record {
  within : l.at ≤ length l.bytes;
  small : l.nth ≤ l.at;
  extents : l.at + extent (payloads_at l.bytes l.at) ≡ 24 + extent (payloads_at l.bytes 24);
  counted : l.nth + length (payloads_at l.bytes l.at) ≡ 1 + length (payloads_at l.bytes 24);
}

abbrev pub decreases-loop-at : goal.decreases-loop-at
decreases-loop-at l = length l.bytes - l.at
