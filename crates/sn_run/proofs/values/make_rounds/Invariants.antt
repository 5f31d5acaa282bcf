use Rattle.std.proofs.Common.{◌≡◌, false}
use Rattle.sn_crew.specs.Crews.{IsUnderway, KeepsCourse, rounds_in, spent_in}
use Rattle.sn_run.specs.Runs.{crew_in}
use Rattle.sn_run.proofs.values.make_rounds.Given as goal

-- so many rounds were made, and no worker is spent
abbrev pub invariant-loop-round : goal.invariant-loop-round
invariant-loop-round g l = record {
  underway : IsUnderway (crew_in l.run);
  made : rounds_in (crew_in l.run) ≡ l._round;
  unspent : spent_in (crew_in l.run) ≡ false;
  course : KeepsCourse (crew_in l.fn.run) (crew_in l.run);
}
