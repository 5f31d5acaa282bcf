use Rattle.sn_packet.specs.Hold.{used_of}
use Rattle.sn_app.specs.Bench.{tray_of}
use Rattle.sn_unit_tests.proofs.edges.a_worn_packet_is_freed_and_counted_as_dropped.Goals as goal

pub pulled-requires-clause-sound : goal.pulled-requires-clause-sound
pulled-requires-clause-sound g c =
    c.in_ok-links.ensures.sound (tray_of c.transmitter_of.new.bench) (used_of c.transmitter_of.new.bench.held)
