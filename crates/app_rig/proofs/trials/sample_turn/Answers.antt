-- answers of src/trials.rt, sample_turn
use Rattle.std.proofs.Common.{arith, refl}
use Rattle.sn_app.proofs.Moving.{sound_as}
use Rattle.app_rig.proofs.trials.sample_turn.Goals as goal

pub returns-clause-rig : goal.returns-clause-rig
returns-clause-rig g c = record {
  sound = sound_as (λ q. omega arith) (c.in_ok-push.ensures.beside (g.A.App.places c.args.app.now) (sound_as (λ q. omega arith) c.requires.rig.sound));
  linked = c.in_ok-push.ensures.rig.linked;
}
