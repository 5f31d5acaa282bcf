use Rattle.std.proofs.Common.{◌≡◌, ◌+◌, ◌≤◌, length}
use Rattle.sn_pcap.specs.Places.{payloads_at, IsPlace}
use Rattle.sn_edge.proofs.pcap_reader.count_from.Given as goal

-- the records counted and those that are left are all from the start on
abbrev pub invariant-loop-found : goal.invariant-loop-found
invariant-loop-found l = record {
  place : IsPlace l.capture l.at;
  small : l.count ≤ l.at;
  counted : l.count + length (payloads_at l.capture l.at) ≡ length (payloads_at l.capture l.start);
}

-- the records that are left
abbrev pub decreases-loop-found : goal.decreases-loop-found
decreases-loop-found l = length (payloads_at l.capture l.at)
