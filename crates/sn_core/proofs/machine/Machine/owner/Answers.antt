use Rattle.std.proofs.Common.{◌<◌, length, sym, ◌∙◌, arith}
use Rattle.std.proofs.lemmas.Option.{slice_get_within}
use Rattle.sn_core.specs.State.{core_of}
use Rattle.sn_core.specs.Ownership.{lane_has, seat_has}
use Rattle.sn_core.proofs.Ownership.{position_found, once_in_cell, once_in_lane, once_in_seat, somewhere}
use Rattle.sn_core.proofs.machine.Machine.owner.Goals as goal

pub overflow_cast-result : goal.overflow_cast-result
overflow_cast-result c =
    let core = core_of c.args.self.now in
    let within : c.in-Some.seat < length core.seats = position_found (seat_has c.args.number) core.seats c.in-Some.seat (sym c.seat_with.ensures ∙ c.in-Some.is) (c.in-Some.seat < length core.seats) (λ x at has. slice_get_within core.seats c.in-Some.seat x at) in
    omega (arith, within, c.requires.kept.shape.seats)

pub returns-in-Some : goal.returns-in-Some
returns-in-Some c =
    record { stands = once_in_seat (core_of c.args.self.now) c.requires.kept.sound.stands c.args.number c.in-Some.seat (sym c.seat_with.ensures ∙ c.in-Some.is) }

pub returns-in-Some-cell_with : goal.returns-in-Some-cell_with
returns-in-Some-cell_with c =
    record { stands = once_in_cell (core_of c.args.self.now) c.requires.kept.sound.stands c.args.number c.in-Some-cell_with.cell (sym c.cell_with.ensures ∙ c.in-Some-cell_with.is) }

pub overflow_cast-result-in-Some-lane_with : goal.overflow_cast-result-in-Some-lane_with
overflow_cast-result-in-Some-lane_with c =
    let core = core_of c.args.self.now in
    let i = c.in-Some-lane_with.lane in
    let within : i < length core.lanes = position_found (lane_has c.args.number) core.lanes i (sym c.lane_with.ensures ∙ c.in-Some-lane_with.is) (i < length core.lanes) (λ x at has. slice_get_within core.lanes i x at) in
    omega (arith, within, c.requires.kept.shape.lanes)

pub unreachable-requires : goal.unreachable-requires
unreachable-requires c =
    somewhere (core_of c.args.self.now) c.requires.kept.sound.stands c.args.number c.requires.number
    (λ s e. c.in_default.not-Some s (c.seat_with.ensures ∙ e))
    (λ k e. c.in_default-cell_with.not-Some k (c.cell_with.ensures ∙ e))
    (sym c.lane_with.ensures ∙ c.in-None.is)

pub returns : goal.returns
returns c =
    record { stands = once_in_lane (core_of c.args.self.now) c.requires.kept.sound.stands c.args.number c.in-Some-lane_with.lane (sym c.lane_with.ensures ∙ c.in-Some-lane_with.is) }
