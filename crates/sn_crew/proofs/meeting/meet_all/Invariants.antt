use Rattle.std.proofs.Common.{◌≡◌, length}
use Rattle.sn_crew.specs.Crews.{PlaceAfter, PlaceUnmet}
use Rattle.sn_manager.specs.Managers.{speakers_in}
use Rattle.sn_crew.proofs.OneMore.{Below, From}
use Rattle.sn_crew.proofs.meeting.meet_all.Given as goal

-- the slots before this one met their speakers, and the others are to
abbrev pub invariant-loop-worker : goal.invariant-loop-worker
invariant-loop-worker l = record {
  met : Below (PlaceAfter l.fn.scenario l.fn.shared l.fn.rounds) l.worker l.places;
  unmet : From (PlaceUnmet l.fn.scenario l.fn.shared l.fn.rounds) l.worker l.places;
  len : length l.places ≡ length l.fn.places;
  said : speakers_in l.manager ≡ speakers_in l.fn.manager;
}
