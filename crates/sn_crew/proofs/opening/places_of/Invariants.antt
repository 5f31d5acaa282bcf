use Rattle.std.proofs.Common.{◌≡◌, length}
use Rattle.sn_crew.specs.Crews.{EachAt, PlaceUnmet}
use Rattle.sn_crew.proofs.opening.places_of.Given as goal

-- the workers so far have their places
abbrev pub invariant-loop-seat : goal.invariant-loop-seat
invariant-loop-seat l = record {
  as_many : length l.places.items ≡ length l.yielded;
  each : EachAt (PlaceUnmet l.fn.scenario l.fn.shared 0) l.places.items;
}
