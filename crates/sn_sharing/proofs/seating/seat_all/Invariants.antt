use Rattle.std.proofs.Common.{◌≡◌, length}
use Rattle.sn_sharing.specs.Seating.{AreSeated, seats_left}
use Rattle.sn_sharing.proofs.seating.seat_all.Given as goal

-- the workers so far are seated, and the group's seats of the others are left
abbrev pub invariant-loop-ends : goal.invariant-loop-ends
invariant-loop-ends l = record {
  to : AreSeated l.fn.scenario l.yielded l.fn.group.id l.seated;
  left : l.groups.items ≡ seats_left l.fn.group.id l.fn.scenario.settings.workers (length l.yielded);
}
