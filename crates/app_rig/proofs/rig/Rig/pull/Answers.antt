-- answers of src/rig.rt, Rig::pull
use Rattle.sn_app.proofs.Moving.{sound_moved}
use Rattle.app_rig.proofs.Opening.{linked_then}
use Rattle.app_rig.proofs.rig.Rig.pull.Goals as goal

pub returns-clause-rig : goal.returns-clause-rig
returns-clause-rig g c = record {
  sound = sound_moved c.in_ok-pull_once.ensures.moves c.requires.rig.sound;
  linked = linked_then c.requires.rig.linked c.in_ok-pull_once.ensures.rows;
}
