use Rattle.sn_packet.specs.Hold.{used_of}
use Rattle.sn_app.specs.Bench.{tray_of}
use Rattle.sn_unit_tests.proofs.edges.a_record_too_long_is_passed_and_not_written.Goals as goal

pub pulled-requires-clause-sound : goal.pulled-requires-clause-sound
pulled-requires-clause-sound g c =
    c.in_ok-links.ensures.sound (tray_of c.writer_of.new.bench) (used_of c.writer_of.new.bench.held)
