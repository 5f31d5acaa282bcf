-- answers of src/tests.rt, attached_twice
use Rattle.seat_rig.proofs.tests.attached_twice.Goals as goal

pub take_step-requires : goal.take_step-requires
take_step-requires g c = c.new-hand.ensures _ _ c.requires.end
