use Rattle.std.proofs.Common.{◌≡◌, ◌≤◌, ◌*◌, ◌^◌, ◌-◌, take}
use Rattle.std.specs.Prelude.{sum_by}
use Rattle.sn_crew.specs.Endings.{is_put, is_taken}
use Rattle.sn_crew.proofs.InJournals.{count_at}
use Rattle.sn_crew.proofs.crew.Crew.in_lanes.Given as goal

-- the journals of the workers so far are counted; each has fewer entries than 2^64
abbrev pub invariant-loop-place : goal.invariant-loop-place
invariant-loop-place l = record {
  put : l.put ≡ sum_by (count_at is_put) (take l.place-index l.self.places.items);
  taken : l.taken ≡ sum_by (count_at is_taken) (take l.place-index l.self.places.items);
  few_put : l.put ≤ l.place-index * (2 ^ 64 - 1);
  few_taken : l.taken ≤ l.place-index * (2 ^ 64 - 1);
}
