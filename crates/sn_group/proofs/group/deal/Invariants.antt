use Rattle.std.proofs.Common.{◌≡◌, ◌≤◌, ◌-◌, [], vec_capacity}
use Rattle.sn_group.specs.Views.{dealt as dealt_view}
use Rattle.sn_group.specs.Seats.{new_seats}
use Rattle.sn_group.proofs.group.deal.Given as goal

abbrev pub invariant-loop : goal.invariant-loop
invariant-loop l = (l.seat.table_id ≡ l.steps.table_id) × (l.seat.me ≡ (dealt_view 1 l.counter (l.seats - l.counter), []))
    × (l.dealt.items ≡ new_seats l.steps.table_id l.counter) × (l.seats ≤ vec_capacity l.dealt)
