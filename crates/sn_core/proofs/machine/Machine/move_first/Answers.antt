use Rattle.std.proofs.Common.{◌≡◌, ◌<◌, length, Some, arith, sym, ◌∙◌, subst}
use Rattle.sn_core.specs.State.{core_of}
use Rattle.sn_core.specs.Lane.{seat_of, first_filled, taken}
use Rattle.sn_core.proofs.Bounds.{end_in, table_is, first_in}
use Rattle.sn_core.proofs.EventResults.{take_first_done, read_is, read_at, some_is}
use Rattle.sn_core.proofs.machine.Machine.move_first.Goals as goal

pub index_mut-requires-in-Some : goal.index_mut-requires-in-Some
index_mut-requires-in-Some c =
    let core = core_of c.args.self.now in
    let lane = c.index-in-Some.result.now in
    let at = read_at core.lanes c.args.lane lane c.requires.lane_in c.index-in-Some.ensures in
    let within : seat_of c.args.side lane < length core.seats = end_in core c.requires.kept c.args.lane lane c.args.side at in
    omega (arith, c.args.self.now.seats.ok.0, c.seat-seat.ensures)

pub insert-requires : goal.insert-requires
insert-requires c =
    let core = core_of c.args.self.now in
    let lane = c.index.result.now in
    let seat = c.index_mut-in-Some.result.now in
    let at = read_at core.lanes c.args.lane lane c.requires.lane_in c.index.ensures in
    let ends_in = end_in core c.requires.kept c.args.lane c.index-in-Some.result.now c.args.side (read_at core.lanes c.args.lane c.index-in-Some.result.now c.requires.lane_in c.index-in-Some.ensures) in
    let seat_in : c.seat-seat.result < length core.seats = omega (arith, c.seat-seat.ensures, ends_in) in
    let there = read_at core.seats c.seat-seat.result seat seat_in c.index_mut-in-Some.ensures.value in
    omega (arith, first_in core c.requires.kept c.args.lane lane c.in-Some.packet at (sym c.in-Some.ensures), table_is core c.requires.kept c.seat-seat.result seat there)

pub returns-in-Some : goal.returns-in-Some
returns-in-Some c = λ test state at filled passes.
    let core = core_of c.args.self.now in
    let seat = c.index_mut-in-Some.result.now in
    let i = c.args.lane in
    let first_lane = read_is core.lanes i state c.index.result.now at c.index.ensures in
    let seat_lane = read_is core.lanes i state c.index-in-Some.result.now at c.index-in-Some.ensures in
    let mut_lane = read_is core.lanes i state c.index_mut.result.now at c.index_mut.ensures.value in
    let seat_is : c.seat-seat.result ≡ seat_of c.args.side state = subst (λ l. c.seat-seat.result ≡ seat_of c.args.side l) seat_lane c.seat-seat.ensures in
    let ends_in = end_in core c.requires.kept i state c.args.side at in
    let seat_in : c.seat-seat.result < length core.seats = omega (arith, seat_is, ends_in) in
    let there = read_at core.seats c.seat-seat.result seat seat_in c.index_mut-in-Some.ensures.value in
    take_first_done core i c.seat-seat.result c.args.side test state c.take.new.self c.in-Some.packet seat c.insert.new.self at
    (subst (λ l. first_filled l.queue ≡ Some c.in-Some.packet) first_lane (sym c.in-Some.ensures)) seat_is there passes
    (subst (λ l. c.take.new.self ≡ taken l) mut_lane c.take.ensures) c.insert.ensures

pub returns-in_default : goal.returns-in_default
returns-in_default c = λ test state at filled passes.
    let core = core_of c.args.self.now in
    let lane_is = read_is core.lanes c.args.lane state c.index.result.now at c.index.ensures in
    let first : c.first.result ≡ first_filled state.queue = subst (λ l. c.first.result ≡ first_filled l.queue) lane_is c.first.ensures in
    absurd (some_is (first_filled state.queue) filled (λ packet is. c.in_default.not-Some packet (first ∙ is)))
