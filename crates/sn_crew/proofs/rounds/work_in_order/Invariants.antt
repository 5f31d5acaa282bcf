use Rattle.std.proofs.Common.{◌≡◌, length}
use Rattle.sn_crew.specs.Crews.{PlaceReady, PlaceWorked}
use Rattle.sn_crew.proofs.OneMore.{Below, From}
use Rattle.sn_crew.proofs.rounds.work_in_order.Given as goal

-- the workers before this one worked, and the others are ready to
abbrev pub invariant-loop-worker : goal.invariant-loop-worker
invariant-loop-worker g l = record {
  worked : Below (PlaceWorked l.fn.scenario l.fn.shared l.fn.rounds) l.worker l.places;
  ready : From (PlaceReady l.fn.scenario l.fn.shared l.fn.rounds) l.worker l.places;
  len : length l.places ≡ length l.fn.places;
}
