use Rattle.std.proofs.Common.{◌≡◌, ◌≤◌, ℕ, vec_capacity, vec_len}
use Rattle.sn_app.specs.Bench.{ends_of}
use Rattle.sn_app.specs.Desk.{out_end}
use Rattle.sn_core.specs.declared.events.Side.{Side}
use Rattle.sn_app.proofs.bench.no_lanes.Given as goal

abbrev pub invariant-loop-lane : goal.invariant-loop-lane
invariant-loop-lane l = record {
  len : vec_len l.lanes ≡ l._lane;
  ends : (lane : ℕ) (side : Side) → ends_of l.lanes.items lane side ≡ out_end;
  room : l.count ≤ vec_capacity l.lanes;
}
