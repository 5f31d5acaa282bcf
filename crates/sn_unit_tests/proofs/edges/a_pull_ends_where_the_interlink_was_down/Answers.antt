use Rattle.sn_packet.specs.Hold.{used_of}
use Rattle.sn_app.specs.Bench.{tray_of}
use Rattle.sn_unit_tests.proofs.edges.a_pull_ends_where_the_interlink_was_down.Goals as goal

pub pulled-requires-clause-sound : goal.pulled-requires-clause-sound
pulled-requires-clause-sound g c =
    c.in_ok-links.ensures.sound (tray_of c.receiver_of.new.bench) (used_of c.receiver_of.new.bench.held)
