use Rattle.std.proofs.Common.{◌∙◌, replicate}
use Rattle.sn_packet.specs.Hold.{used_of}
use Rattle.sn_packet.specs.Packet.{with_bytes}
use Rattle.sn_packet.proofs.Puts.{some_laid}
use Rattle.sn_app.specs.World.{packet_at}
use Rattle.sn_unit_tests.proofs.benches.written.Goals as goal

pub file_append-requires-clause-place : goal.file_append-requires-clause-place
file_append-requires-clause-place c =
    let used = used_of c.allocate.new.self.held in
    some_laid used (used_of c.file_start.new.self.held) c.in-Some.place
    (with_bytes (replicate 60 0) (packet_at used c.in-Some.place))
    (c.in_ok-file_start.ensures.used ∙ c.zeros.ensures.used)

pub free-requires : goal.free-requires
free-requires c =
    let used = used_of c.allocate.new.self.held in
    some_laid used (used_of c.file_append.new.self.held) c.in-Some.place
    (with_bytes (replicate 60 0) (packet_at used c.in-Some.place))
    (c.in_ok-added.ensures.used ∙ (c.in_ok-file_start.ensures.used ∙ c.zeros.ensures.used))
