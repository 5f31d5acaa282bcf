use Rattle.sn_interlink.proofs.LawsHold.{look_law, attach_law, miss_law, detach_law, reset_law, sync_law, room_law, far_room_law, see_law, take_law, release_law, lay_law, take_back_law, publish_law, drain_take_law, drain_release_law}
use Rattle.sn_interlink.proofs.ReadIsSound.{sound_law}
use Rattle.sn_interlink.proofs.step_laws.steps_are_events.Goals as goal

pub returns : goal.returns
returns c = record {
  look = look_law;
  attach = attach_law;
  miss = miss_law;
  detach = detach_law;
  reset = reset_law;
  sync = sync_law;
  room = room_law;
  far_room = far_room_law;
  see = see_law;
  take = take_law;
  release = release_law;
  lay = lay_law;
  take_back = take_back_law;
  publish = publish_law;
  drain_take = drain_take_law;
  drain_release = drain_release_law;
  sound = sound_law;
}
