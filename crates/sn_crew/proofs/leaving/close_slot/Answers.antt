use Rattle.sn_crew.proofs.SeatsLeft.{seat_left}
use Rattle.sn_crew.proofs.leaving.close_slot.Goals as goal

pub returns : goal.returns
returns g c =
    let e = c.in_ok-close.ensures in
    seat_left c.args.shared.now c.args.place c.close.new.self c.into_seat.result c.into_seat.ensures e.reads e.out e.used e.bond
