use Rattle.std.proofs.Common.{◌≡◌}
use Rattle.seat_rig.proofs.trials.trial.Given as goal
use Rattle.seat_rig.specs.Hands.{Holds}

-- what is known of both ends is so, and both contexts hold the borrows that they held
abbrev pub invariant-loop-who : goal.invariant-loop-who
invariant-loop-who g l = record {
  mine : Holds l.mine (g.C.Ctx.tray l.first) (g.C.Ctx.used l.first);
  other : Holds l.other (g.D.Ctx.tray l.second) (g.D.Ctx.used l.second);
  lent : g.C.Ctx.lender l.first ≡ g.C.Ctx.lender l.fn.first;
  other_lent : g.D.Ctx.lender l.second ≡ g.D.Ctx.lender l.fn.second;
}
