-- answers of src/rig.rt, Rig::new
use Rattle.sn_app.specs.Bench.{tray_of}
use Rattle.sn_packet.specs.Hold.{used_of}
use Rattle.app_rig.proofs.rig.Rig.new.Goals as goal

pub returns-clause-rig : goal.returns-clause-rig
returns-clause-rig c = record {
  sound = c.in_ok-links.ensures.sound (tray_of c.args.bench) (used_of c.args.bench.held);
  linked = c.in_ok-links.ensures.linked;
}
