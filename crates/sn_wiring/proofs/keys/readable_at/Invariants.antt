use Rattle.std.proofs.Common.{◌≡◌, drop}
use Rattle.sn_app.specs.World.{Used, queue_in}
use Rattle.sn_wiring.proofs.keys.readable_at.Given as goal

abbrev pub invariant-loop-key : goal.invariant-loop-key
invariant-loop-key l = (u : Used) → queue_in u (drop l.key l.links.slots) l.row ≡ queue_in u l.links.slots l.row
