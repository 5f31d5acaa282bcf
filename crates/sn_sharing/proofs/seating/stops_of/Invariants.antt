use Rattle.std.proofs.Common.{◌≡◌, ◌++◌, drop}
use Rattle.sn_sharing.specs.Opened.{stops_of}
use Rattle.sn_sharing.proofs.seating.stops_of.Given as goal

-- the pairs so far with those of the lines that are left are those of all
abbrev pub invariant-loop-stop : goal.invariant-loop-stop
invariant-loop-stop l = l.pairs.items ++ stops_of l.worker (drop l.stop-index l.stops) ≡ stops_of l.worker l.stops
