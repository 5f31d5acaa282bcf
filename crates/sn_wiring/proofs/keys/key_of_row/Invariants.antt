use Rattle.std.proofs.Common.{◌≤◌, drop}
use Rattle.sn_app.specs.World.{rows_in}
use Rattle.sn_wiring.proofs.keys.key_of_row.Given as goal

abbrev pub invariant-loop-key : goal.invariant-loop-key
invariant-loop-key l = 1 ≤ rows_in l.row (drop l.key l.links.slots)
