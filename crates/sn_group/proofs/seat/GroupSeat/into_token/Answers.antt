use Rattle.std.proofs.Common.{ap, ◌∙◌}
use Rattle.sn_group.specs.Seats.{SeatState}
use Rattle.sn_group.proofs.Transfers.{is_rested}
use Rattle.sn_group.proofs.seat.GroupSeat.into_token.Goals as goal

pub returns-clause-rested : goal.returns-clause-rested
returns-clause-rested c =
    is_rested _ _ _ _ _ _ _ c.self.invariant.0 (ap (λ (s : SeatState). s.pending) c.self.view_is ∙ c.requires.rest) _ _ c.self.view_is
