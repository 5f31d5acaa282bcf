use Rattle.std.proofs.Common.{◌≡◌, ◌<◌, length, None, [], ◌∷◌, true, arith, sym, ap, ◌∙◌, subst}
use Rattle.std.specs.Prelude.{option_to_list, unwrap_or}
use Rattle.sn_core.specs.State.{core_of}
use Rattle.sn_core.specs.Seat.{turn_of, highest_turn, with_pending, without_packet, handed_over, claims_of, is_given_in}
use Rattle.sn_core.proofs.Bounds.{claimed_in, held_in, given_fresh, fresh_turn}
use Rattle.sn_core.proofs.Reservations.{fresh_some}
use Rattle.sn_core.proofs.EventResults.{give_done_done, read_is, read_at}
use Rattle.sn_core.proofs.machine.Machine.give_done.Goals as goal

pub handed_over-packet-requires : goal.handed_over-packet-requires
handed_over-packet-requires c =
    let core = core_of c.args.self.now in
    let seat = c.index-2.result.now in
    let seat_in : c.args.seat < length core.seats = omega (arith, c.args.self.now.seats.ok.0) in
    let there = read_at core.seats c.args.seat seat seat_in c.index-2.ensures in
    let tested = read_is core.seats c.args.seat seat c.index.result.now there c.index.ensures in
    let again = read_is core.seats c.args.seat seat c.index-3.result.now there c.index-3.ensures in
    let one : claims_of seat ≡ c.in-Some.claim ∷ [] = sym c.claim.ensures ∙ ap option_to_list c.in-Some.is in
    let given : is_given_in seat ≡ true = sym (ap (λ x. is_given_in x) tested) ∙ sym c.is_given_in.ensures ∙ c.if-not-is_given_in.false in
    subst (λ x. unwrap_or (turn_of c.in-Some.claim.packet x) 0 < highest_turn) (sym again)
    (fresh_turn (turn_of c.in-Some.claim.packet seat) (given_fresh core c.requires c.args.seat seat c.in-Some.claim there one given))

pub index_mut-requires : goal.index_mut-requires
index_mut-requires c =
    let core = core_of c.args.self.now in
    let seat = c.index-2.result.now in
    let seat_in : c.args.seat < length core.seats = omega (arith, c.args.self.now.seats.ok.0) in
    let there = read_at core.seats c.args.seat seat seat_in c.index-2.ensures in
    let one : claims_of seat ≡ c.in-Some.claim ∷ [] = sym c.claim.ensures ∙ ap option_to_list c.in-Some.is in
    omega (arith, c.args.self.now.cells.ok.0, claimed_in core c.requires c.args.seat seat c.in-Some.claim there one)

pub end_giving-requires : goal.end_giving-requires
end_giving-requires c =
    let core = core_of c.args.self.now in
    let seat = c.index-2.result.now in
    let seat_in : c.args.seat < length core.seats = omega (arith, c.args.self.now.seats.ok.0) in
    let there = read_at core.seats c.args.seat seat seat_in c.index-2.ensures in
    let tested = read_is core.seats c.args.seat seat c.index.result.now there c.index.ensures in
    let again = read_is core.seats c.args.seat seat c.index_mut-2.result.now there c.index_mut-2.ensures.value in
    let one : claims_of seat ≡ c.in-Some.claim ∷ [] = sym c.claim.ensures ∙ ap option_to_list c.in-Some.is in
    let given : is_given_in seat ≡ true = sym (ap (λ x. is_given_in x) tested) ∙ sym c.is_given_in.ensures ∙ c.if-not-is_given_in.false in
    let fresh = given_fresh core c.requires c.args.seat seat c.in-Some.claim there one given in
    subst (λ x. c.in-Some.claim.packet < length x.held) (sym again) (held_in seat c.in-Some.claim.packet (fresh_some (turn_of c.in-Some.claim.packet seat) fresh))

pub returns : goal.returns
returns c =
    let core = core_of c.args.self.now in
    let s = c.args.seat in
    let seat = c.index-2.result.now in
    let seat_in : s < length core.seats = omega (arith, c.args.self.now.seats.ok.0) in
    let there = read_at core.seats s seat seat_in c.index-2.ensures in
    let tested = read_is core.seats s seat c.index.result.now there c.index.ensures in
    let given_over = read_is core.seats s seat c.index-3.result.now there c.index-3.ensures in
    let again = read_is core.seats s seat c.index_mut-2.result.now there c.index_mut-2.ensures.value in
    let one : claims_of seat ≡ c.in-Some.claim ∷ [] = sym c.claim.ensures ∙ ap option_to_list c.in-Some.is in
    give_done_done core s seat c.end_giving.new.self c.in-Some.claim c.handed_over-packet.result there one
    (sym (ap (λ x. is_given_in x) tested) ∙ sym c.is_given_in.ensures ∙ c.if-not-is_given_in.false)
    (c.handed_over-packet.ensures ∙ ap (λ x. handed_over x c.in-Some.claim.packet) given_over)
    (subst (λ x. c.end_giving.new.self ≡ with_pending None (without_packet c.in-Some.claim.packet x)) again c.end_giving.ensures)
