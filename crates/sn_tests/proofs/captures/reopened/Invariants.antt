use Rattle.std.proofs.Common.{◌≡◌, ◌++◌, take}
use Rattle.std.specs.Prelude.{map, flat_map}
use Rattle.sn_pcap.specs.Written.{written_header, written_record}
use Rattle.sn_tests.proofs.captures.reopened.Given as goal

abbrev pub invariant-loop-payload : goal.invariant-loop-payload
invariant-loop-payload l =
    l.bytes.items ≡ written_header ++ flat_map written_record (map (λ v. v.items) (take l.payload-index l.payloads))
