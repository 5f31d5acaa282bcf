use Rattle.std.proofs.Common.{rules, ◌≡◌, ◌+◌, refl}
use Rattle.sn_seat.specs.Tellings.{seat_hold}
use Rattle.sn_seat.specs.Trays.{seat_used}
use Rattle.sn_reclaim.specs.Attempts.{give_or_end}
use Rattle.sn_reclaim.proofs.Givings.{lost_ends}
use Rattle.sn_reclaim.proofs.Walking.{walk_from}
use Rattle.sn_reclaim.proofs.giving.give_next.Goals as goal

pub give_at-requires-clause-place : goal.give_at-requires-clause-place
give_at-requires-clause-place c = c.requires.walks.here c.args.place refl

pub returns-in_default-clause-reads : goal.returns-in_default-clause-reads
returns-in_default-clause-reads c = lost_ends give_or_end c.in_ok-give_at.ensures.leaves

pub returns-clause-walks : goal.returns-clause-walks
returns-clause-walks c =
    let is : c.in-Some.from ≡ c.args.place + 1 = search rules in
    let gave = c.in_ok-give_at.ensures in
    let next = c.held.ensures in
    let s = c.args.seat.now in
    let later = c.give_at.new.seat in
    walk_from (seat_hold s) (seat_hold later) (seat_used s) (seat_used later) c.args.place c.requires.walks gave.used gave.held
    c.in-Some.from is c.held.result next.held next.from next.least next.none
