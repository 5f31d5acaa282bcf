-- answers of src/opening.rt, open_two
use Rattle.sn_seat.specs.declared.seat_end.SeatEnd.TheVariants.{Transmitter}
use Rattle.seat_rig.proofs.Seating.{all_transmitter, bond_as, has_transmitter, one_fits}
use Rattle.seat_rig.proofs.opening.open_two.Goals as goal

pub returns-clause-first : goal.returns-clause-first
returns-clause-first c =
    let seat = c.in_ok-seat.ensures in
    let first = c.in_ok-half.ensures.first in
    let ends = all_transmitter c.in_ok-ends.ensures.tx c.in_ok-ends.ensures.rx in
    record {
      fits = one_fits _ 0 _ _ _ _ _ _ (0, Transmitter c.in_ok-half.half.tx) (bond_as seat.bond ends)
          first.lane first.group first.channel first.captures first.one;
      names = record { end = has_transmitter seat.has_end ends; apps = seat.apps; lanes = seat.lanes };
      none = seat.none;
    }
