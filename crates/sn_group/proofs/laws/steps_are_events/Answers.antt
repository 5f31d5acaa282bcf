use Rattle.sn_group.proofs.Events.{looks, take_claims_are, take_outs_are, take_dones_are, give_claims_are, give_ins_are, give_dones_are, is_sound}
use Rattle.sn_group.proofs.laws.steps_are_events.Goals as goal

pub returns : goal.returns
returns c =
    record {
      look = looks;
      take_claim = take_claims_are;
      take_out = take_outs_are;
      take_done = take_dones_are;
      give_claim = give_claims_are;
      give_in = give_ins_are;
      give_done = give_dones_are;
      sound = is_sound;
    }
