-- answers of src/opening.rt, open_half
use Rattle.std.proofs.Common.{◌∙◌, ap, sym}
use Rattle.sn_channel.specs.Ends.{ListenerLog}
use Rattle.sn_group.specs.Seats.{GroupState, SeatState}
use Rattle.sn_interlink.specs.Ends.{LaneEnd}
use Rattle.sn_seat.specs.declared.seat_end.SeatEnd.TheVariants.{Receiver}
use Rattle.seat_rig.proofs.Seating.{all_receiver, bond_as, first_is, has_receiver, one_fits, one_long, second_is}
use Rattle.seat_rig.proofs.opening.open_half.Goals as goal

pub returns-clause-second : goal.returns-clause-second
returns-clause-second c =
    let seat = c.in_ok-seat.ensures in
    let shared = c.in_ok-shared.ensures in
    let ends = all_receiver c.in_ok-ends.ensures.tx c.in_ok-ends.ensures.rx in
    let lane = first_is shared.lanes (sym (ap (λ (e : LaneEnd). e.lane) c.in_ok-lane.ensures.rx)) in
    let group = ap (λ (s : SeatState). s.group) c.in_ok-group.ensures.second ∙ sym (ap (λ (g : GroupState). g.id) shared.group) in
    let channel = second_is shared.channels (sym (ap (λ (l : ListenerLog). l.channel) c.in_ok-other.ensures.listener)) in
    record {
      fits = one_fits _ 1 _ _ _ _ _ _ (0, Receiver c.in_ok-lane.rx) (bond_as seat.bond ends) lane group channel shared.captures
          (one_long shared.lanes);
      names = record { end = has_receiver seat.has_end ends; apps = seat.apps; lanes = seat.lanes };
      none = seat.none;
    }
