use Rattle.sn_app.proofs.Moving.{sound_moved}
use Rattle.sn_unit_tests.proofs.edges.pulled.Goals as goal

pub returns-clause-sound : goal.returns-clause-sound
returns-clause-sound g c = sound_moved c.in_ok-pull_once.ensures.moves c.requires.sound
