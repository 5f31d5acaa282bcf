use Rattle.sn_core.proofs.LaneSoundness.{free_sound, attached_sound, detached_sound, reset_sound, taken_sound, drained_sound, released_sound, laid_sound, published_sound, taken_back_sound}
use Rattle.sn_core.proofs.laws.lanes_stay_sound.Goals as goal

pub returns : goal.returns
returns c =
    record {
      free = free_sound;
      attach = attached_sound;
      detach = detached_sound;
      reset = reset_sound;
      take = taken_sound;
      release = λ lane can sound. released_sound lane sound;
      lay = laid_sound;
      publish = λ packets lane follows has sound. published_sound packets lane has follows.count follows.put sound;
      take_back = λ lane has sound. taken_back_sound lane sound;
      drain = drained_sound;
      drain_release = λ side lane can sound. released_sound lane sound;
    }
