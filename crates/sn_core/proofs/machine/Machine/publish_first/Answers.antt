use Rattle.std.proofs.Common.{◌≡◌, ◌<◌, length, drop, [], ◌∷◌, arith, sym, ap, ◌∙◌, subst, slice_get, Some}
use Rattle.sn_core.specs.State.{core_of}
use Rattle.sn_core.specs.Lane.{published_some}
use Rattle.sn_core.specs.Seat.{turn_of, without_packet, handed_over}
use Rattle.sn_core.proofs.Bounds.{end_in, held_in, laid_fresh, fresh_turn, first_laid}
use Rattle.sn_core.proofs.Reservations.{fresh_some}
use Rattle.sn_core.proofs.EventResults.{read_is, read_at}
use Rattle.sn_core.proofs.LanePreservation.{laid_first, first_done}
use Rattle.sn_core.specs.declared.events.Side.TheVariants.{Tx}
use Rattle.sn_core.proofs.machine.Machine.publish_first.Goals as goal

pub handed_over-packet-requires : goal.handed_over-packet-requires
handed_over-packet-requires c =
    let core = core_of c.args.self.now in
    let i = c.args.lane in
    let lane = c.index.result.now in
    let at = read_at core.lanes i lane c.requires.lane_in c.index.ensures in
    let seat_lane = read_is core.lanes i lane c.index-2.result.now at c.index-2.ensures in
    let seat_is : c.seat-seat.result ≡ lane.tx_seat = subst (λ x. c.seat-seat.result ≡ x.tx_seat) seat_lane c.seat-seat.ensures in
    let seat_in : c.seat-seat.result < length core.seats = omega (arith, seat_is, end_in core c.requires.kept i lane Tx at) in
    let there = read_at core.seats c.seat-seat.result c.index-3.result.now seat_in c.index-3.ensures in
    let laid = laid_first lane.laid c.in-Some.number (sym c.first_laid.ensures ∙ c.in-Some.is) in
    let there_tx = subst (λ s. slice_get core.seats s ≡ Some c.index-3.result.now) seat_is there in
    fresh_turn (turn_of c.in-Some.number c.index-3.result.now)
    (laid_fresh core c.requires.kept i c.in-Some.number lane c.index-3.result.now at (first_laid lane c.in-Some.number (drop 1 lane.laid) laid) there_tx)

pub remove-requires : goal.remove-requires
remove-requires c =
    let core = core_of c.args.self.now in
    let i = c.args.lane in
    let lane = c.index.result.now in
    let at = read_at core.lanes i lane c.requires.lane_in c.index.ensures in
    let seat = c.index-3.result.now in
    let seat_lane = read_is core.lanes i lane c.index-2.result.now at c.index-2.ensures in
    let seat_is : c.seat-seat.result ≡ lane.tx_seat = subst (λ x. c.seat-seat.result ≡ x.tx_seat) seat_lane c.seat-seat.ensures in
    let seat_in : c.seat-seat.result < length core.seats = omega (arith, seat_is, end_in core c.requires.kept i lane Tx at) in
    let there = read_at core.seats c.seat-seat.result seat seat_in c.index-3.ensures in
    let again = read_is core.seats c.seat-seat.result seat c.index_mut-2.result.now there c.index_mut-2.ensures.value in
    let laid = laid_first lane.laid c.in-Some.number (sym c.first_laid.ensures ∙ c.in-Some.is) in
    let there_tx = subst (λ s. slice_get core.seats s ≡ Some seat) seat_is there in
    let fresh = laid_fresh core c.requires.kept i c.in-Some.number lane seat at (first_laid lane c.in-Some.number (drop 1 lane.laid) laid) there_tx in
    subst (λ x. c.in-Some.number < length x.held) (sym again) (held_in seat c.in-Some.number (fresh_some (turn_of c.in-Some.number seat) fresh))

pub returns : goal.returns
returns c = λ state seat n rest at there laid.
    let core = core_of c.args.self.now in
    let i = c.args.lane in
    let first_lane = read_is core.lanes i state c.index.result.now at c.index.ensures in
    let seat_lane = read_is core.lanes i state c.index-2.result.now at c.index-2.ensures in
    let mut_lane = read_is core.lanes i state c.index_mut.result.now at c.index_mut.ensures.value in
    let seat_is : c.seat-seat.result ≡ state.tx_seat = subst (λ x. c.seat-seat.result ≡ x.tx_seat) seat_lane c.seat-seat.ensures in
    let there_s = subst (λ s. slice_get core.seats s ≡ Some seat) (sym seat_is) there in
    let given = read_is core.seats c.seat-seat.result seat c.index-3.result.now there_s c.index-3.ensures in
    let again = read_is core.seats c.seat-seat.result seat c.index_mut-2.result.now there_s c.index_mut-2.ensures.value in
    first_done core i c.seat-seat.result n c.in-Some.number state c.publish_first.new.self seat c.remove.new.self c.handed_over-packet.result rest laid
    (subst (λ x. slice_get x.laid 0 ≡ Some c.in-Some.number) first_lane (sym c.first_laid.ensures ∙ c.in-Some.is)) seat_is
    (c.handed_over-packet.ensures ∙ ap (λ x. handed_over x c.in-Some.number) given)
    (subst (λ x. c.publish_first.new.self ≡ published_some (c.handed_over-packet.result ∷ []) (drop 1 x.laid) x) mut_lane c.publish_first.ensures)
    (subst (λ x. c.remove.new.self ≡ without_packet c.in-Some.number x) again c.remove.ensures)
