-- answers of src/trials.rt, trial
use Rattle.std.proofs.Common.{refl}
use Rattle.seat_rig.proofs.trials.trial.Goals as goal

pub loop-who-init : goal.loop-who-init
loop-who-init g c = record {
  mine = c.new-mine.ensures _ _ c.requires.first;
  other = c.new-other.ensures _ _ c.requires.second;
  lent = refl;
  other_lent = refl;
}
