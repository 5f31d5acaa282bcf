use Rattle.std.proofs.Common.{◌≡◌, ℕ, ◌<◌, ◌≤◌, None}
use Rattle.sn_packet.specs.Hold.{at_of}
use Rattle.sn_packet.proofs.hold.Hold.held_from.Given as goal

abbrev pub invariant-loop-place : goal.invariant-loop-place
invariant-loop-place l = (other : ℕ) → l.from ≤ other → other < l.place → at_of l.self other ≡ None
