use Rattle.std.proofs.Common.{ap, sym, ◌∙◌}
use Rattle.sn_group.specs.Seats.{SeatState, GroupState}
use Rattle.sn_group.proofs.Steps.{give_ends}
use Rattle.sn_group.proofs.Transfers.{has_part, is_given, within}
use Rattle.sn_group.proofs.seat.GroupSeat.give_done.Goals as goal

pub store-requires : goal.store-requires
store-requires c =
    let seat = c.self.invariant.0 in
    let given = is_given _ _ _ _ _ _ _ seat (ap (λ (s : SeatState). s.pending) c.self.view_is ∙ c.requires.given) in
    let same = ap (λ (s : SeatState). s.group) c.self.view_is ∙ c.requires.group ∙ sym (ap (λ (g : GroupState). g.id) c.group.view_is) in (
      same,
      within _ _ _ _ same c.self.invariant.2 c.group.invariant.0 c.group.invariant.1,
      give_ends _ _ _ _ _ _ _ given.0 _ (has_part _ _ _ _ _ _ _ seat) given.1 given.2 given.3 (given.4 ∙ sym c.full.ensures),
    )
