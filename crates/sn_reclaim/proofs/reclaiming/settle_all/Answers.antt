use Rattle.std.proofs.Common.{ap}
use Rattle.sn_app.specs.Desk.{Tray}
use Rattle.sn_seat.specs.Trays.{captures_of, seat_tray}
use Rattle.sn_reclaim.proofs.Attempting.{files_from, refused_as, settled_from}
use Rattle.sn_reclaim.proofs.reclaiming.settle_all.Goals as goal

pub settle_lanes-requires-clause-none : goal.settle_lanes-requires-clause-none
settle_lanes-requires-clause-none c = ap (λ (t : Tray). t.free) (c.settle.ensures.tray (captures_of c.args.shared.now))

pub returns-in-Ok-settle_lanes-clause-reads : goal.returns-in-Ok-settle_lanes-clause-reads
returns-in-Ok-settle_lanes-clause-reads c =
    let caps = captures_of c.args.shared.now in
    settled_from (seat_tray caps c.args.seat.now) (c.settle.ensures.tray caps) c.in-Ok-settle_lanes.ensures.reads

pub returns-in-Ok-settle_lanes-clause-leaves : goal.returns-in-Ok-settle_lanes-clause-leaves
returns-in-Ok-settle_lanes-clause-leaves c =
    let caps = captures_of c.args.shared.now in
    files_from (seat_tray caps c.args.seat.now) (c.settle.ensures.tray caps) c.in-Ok-settle_lanes.ensures.leaves

pub returns-in-Err-settle_lanes-clause-reads : goal.returns-in-Err-settle_lanes-clause-reads
returns-in-Err-settle_lanes-clause-reads c =
    let caps = captures_of c.args.shared.now in
    settled_from (seat_tray caps c.args.seat.now) (c.settle.ensures.tray caps)
    (refused_as c.in-Err-settle_lanes.ensures.memory c.in-Err-settle_lanes.ensures.reads)

pub returns-in-Err-settle_lanes-clause-leaves : goal.returns-in-Err-settle_lanes-clause-leaves
returns-in-Err-settle_lanes-clause-leaves c =
    let caps = captures_of c.args.shared.now in
    files_from (seat_tray caps c.args.seat.now) (c.settle.ensures.tray caps) c.in-Err-settle_lanes.ensures.leaves
