use Rattle.std.proofs.Common.{◌≡◌, ◌<◌, length, Some, [], ◌∷◌, arith, sym, ◌∙◌, ap, subst}
use Rattle.sn_core.specs.declared.parts.Phase.TheVariants.{Taking}
use Rattle.sn_core.specs.State.{core_of}
use Rattle.sn_core.specs.Seat.{with_pending, with_packet}
use Rattle.sn_core.proofs.Bounds.{cell_packet_in, table_is}
use Rattle.sn_core.proofs.EventResults.{take_claim_done, read_is, read_at}
use Rattle.sn_core.proofs.machine.Machine.take_claim.Goals as goal

pub begin_taking-requires : goal.begin_taking-requires
begin_taking-requires c =
    let core = core_of c.args.self.now in
    let seat = c.index_mut-2.result.now in
    let seat_in : c.args.seat < length core.seats = omega (arith, c.args.self.now.seats.ok.0) in
    let cell_in : c.args.cell < length core.cells = omega (arith, c.args.self.now.cells.ok.0) in
    let there = read_at core.seats c.args.seat seat seat_in c.index_mut-2.ensures.value in
    let full = read_at core.cells c.args.cell c.index-2.result.now cell_in c.index-2.ensures in
    omega (arith, table_is core c.requires c.args.seat seat there, cell_packet_in core c.requires c.args.cell c.in-Full.packet (full ∙ ap Some c.in-Full.is))

pub returns : goal.returns
returns c =
    let core = core_of c.args.self.now in
    let s = c.args.seat in
    let seat = c.index.result.now in
    let seat_in : s < length core.seats = omega (arith, c.args.self.now.seats.ok.0) in
    let cell_in : c.args.cell < length core.cells = omega (arith, c.args.self.now.cells.ok.0) in
    let there = read_at core.seats s seat seat_in c.index.ensures in
    let again = read_is core.seats s seat c.index_mut-2.result.now there c.index_mut-2.ensures.value in
    let full = read_at core.cells c.args.cell c.index-2.result.now cell_in c.index-2.ensures in
    take_claim_done core s c.args.cell seat c.begin_taking.new.self c.in-Full.packet there (full ∙ ap Some c.in-Full.is) (sym c.is_idle.ensures ∙ c.if-not-is_idle.false)
    (subst (λ x. c.begin_taking.new.self ≡ with_pending (Some (record { phase = Taking 0; claims = record { cell = c.args.cell; packet = c.in-Full.packet.number } ∷ [] })) (with_packet c.in-Full.packet x)) again c.begin_taking.ensures)
