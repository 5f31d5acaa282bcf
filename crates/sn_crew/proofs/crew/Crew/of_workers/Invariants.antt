use Rattle.std.proofs.Common.{◌≡◌, ◌≤◌, ◌+◌, ◌*◌, ◌^◌, ◌-◌}
use Rattle.sn_crew.proofs.LeftOver.{left_behind}
use Rattle.sn_crew.proofs.crew.Crew.of_workers.Given as goal

-- what the workers so far have left, and those behind them, is what all have; each has less than 2^64
abbrev pub invariant-loop-place : goal.invariant-loop-place
invariant-loop-place l = record {
  whole : l.left + left_behind l.self.scenario l.self.shared l.place-index l.self.places.items
      ≡ left_behind l.self.scenario l.self.shared 0 l.self.places.items;
  few : l.left ≤ l.place-index * (2 ^ 64 - 1);
}
