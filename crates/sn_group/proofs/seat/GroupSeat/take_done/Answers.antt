use Rattle.std.proofs.Common.{ap, sym, ◌∙◌}
use Rattle.sn_group.specs.Seats.{SeatState, GroupState}
use Rattle.sn_group.proofs.Steps.{take_ends}
use Rattle.sn_group.proofs.Transfers.{has_part, is_out, within}
use Rattle.sn_group.proofs.seat.GroupSeat.take_done.Goals as goal

pub store-requires : goal.store-requires
store-requires c =
    let seat = c.self.invariant.0 in
    let out = is_out _ _ _ _ _ _ _ seat (ap (λ (s : SeatState). s.pending) c.self.view_is ∙ c.requires.out) in
    let same = ap (λ (s : SeatState). s.group) c.self.view_is ∙ c.requires.group ∙ sym (ap (λ (g : GroupState). g.id) c.group.view_is) in (
      same,
      within _ _ _ _ same c.self.invariant.1 c.group.invariant.0 c.group.invariant.1,
      take_ends _ _ _ _ _ _ _ (has_part _ _ _ _ _ _ _ seat) out.0 out.1,
    )
