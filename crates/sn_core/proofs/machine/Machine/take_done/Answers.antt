use Rattle.std.proofs.Common.{◌≡◌, ◌<◌, length, None, [], ◌∷◌, arith, sym, ap, ◌∙◌, subst}
use Rattle.std.specs.Prelude.{option_to_list}
use Rattle.sn_core.specs.State.{core_of}
use Rattle.sn_core.specs.Seat.{with_pending, claims_of, is_all_out}
use Rattle.sn_core.proofs.Bounds.{claimed_in}
use Rattle.sn_core.proofs.EventResults.{take_done_done, read_is, read_at}
use Rattle.sn_core.proofs.machine.Machine.take_done.Goals as goal

pub index_mut-requires : goal.index_mut-requires
index_mut-requires c =
    let core = core_of c.args.self.now in
    let seat = c.index-2.result.now in
    let seat_in : c.args.seat < length core.seats = omega (arith, c.args.self.now.seats.ok.0) in
    let there = read_at core.seats c.args.seat seat seat_in c.index-2.ensures in
    let one : claims_of seat ≡ c.in-Some.claim ∷ [] = sym c.claim.ensures ∙ ap option_to_list c.in-Some.is in
    omega (arith, c.args.self.now.cells.ok.0, claimed_in core c.requires c.args.seat seat c.in-Some.claim there one)

pub returns : goal.returns
returns c =
    let core = core_of c.args.self.now in
    let s = c.args.seat in
    let seat = c.index-2.result.now in
    let seat_in : s < length core.seats = omega (arith, c.args.self.now.seats.ok.0) in
    let there = read_at core.seats s seat seat_in c.index-2.ensures in
    let tested = read_is core.seats s seat c.index.result.now there c.index.ensures in
    let again = read_is core.seats s seat c.index_mut-2.result.now there c.index_mut-2.ensures.value in
    let one : claims_of seat ≡ c.in-Some.claim ∷ [] = sym c.claim.ensures ∙ ap option_to_list c.in-Some.is in
    take_done_done core s seat c.end_taking.new.self c.in-Some.claim there one
    (sym (ap (λ x. is_all_out x) tested) ∙ sym c.is_all_out.ensures ∙ c.if-not-is_all_out.false)
    (subst (λ x. c.end_taking.new.self ≡ with_pending None x) again c.end_taking.ensures)
