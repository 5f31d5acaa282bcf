use Rattle.std.proofs.Common.{rules, ap, ◌∙◌}
use Rattle.sn_group.specs.Seats.{SeatState}
use Rattle.sn_group.proofs.Transfers.{is_taking, first_out}
use Rattle.sn_group.proofs.seat.GroupSeat.take_out.Goals as goal

pub exchange-load-requires : goal.exchange-load-requires
exchange-load-requires c =
    let taking = is_taking _ _ _ _ _ _ _ c.self.invariant.0 (ap (λ (s : SeatState). s.pending) c.self.view_is ∙ c.requires.taking) in
    (search rules, first_out _ _ _ taking.1)
