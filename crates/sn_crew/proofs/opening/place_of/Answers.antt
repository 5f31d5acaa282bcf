use Rattle.sn_crew.proofs.Placing.{placed}
use Rattle.sn_seat.specs.Trays.{captures_of}
use Rattle.sn_crew.proofs.opening.place_of.Goals as goal

pub returns : goal.returns
returns c =
    let e = c.in_ok-slot.ensures in
    let caps = captures_of c.args.shared.now in
    placed c.args.scenario.now c.args.shared.now c.args.worker c.args.seat c.in_ok-slot.slot c.lanes.ensures.bounds.once
    c.requires.opened e.seat e.plan e.breaths e.keep (e.life caps) (e.desk caps) (e.can caps)
