use Rattle.std.proofs.Common.{refl, subst, sym, ap, true, ◌≡◌, ◌∙◌}
use Rattle.sn_app.proofs.OnTrays.{halt_lost}
use Rattle.sn_seat.specs.SeatEnds.{desk_state, ends_in, has_wire, wires}
use Rattle.sn_seat.specs.Settling.{settles_end}
use Rattle.sn_seat.specs.Trays.{captures_of, seat_tray}
use Rattle.sn_seat.proofs.DetachRows.{detach_ungated}
use Rattle.sn_seat.proofs.LaneRows.{leaves_same, lost_same}
use Rattle.sn_seat.proofs.SettleRows.{settle_closing, settle_out, settle_up, there_where}
use Rattle.sn_seat.proofs.seat.Seat.settle_end.Goals as goal

pub returns-in-Out-clause-reads : goal.returns-in-Out-clause-reads
returns-in-Out-clause-reads c =
    settle_out (seat_tray (captures_of c.args.shared.now) c.args.self.now) c.args.lane c.args.side
    (c.state_or_out.ensures ∙ ap desk_state c.in-Out.is)

pub returns-in-Out-clause-leaves : goal.returns-in-Out-clause-leaves
returns-in-Out-clause-leaves c = leaves_same c.args.lane c.args.side _ _ refl

pub close-requires-clause-end : goal.close-requires-clause-end
close-requires-clause-end c =
    there_where c.args.self.now.ledger.ends.items c.args.lane c.args.side _
    (c.state_or_out.ensures ∙ ap desk_state c.in-Closing.is) refl

pub returns-in-Closing-clause-reads : goal.returns-in-Closing-clause-reads
returns-in-Closing-clause-reads c =
    settle_closing c.args.lane c.args.side (c.state_or_out.ensures ∙ ap desk_state c.in-Closing.is) c.close.ensures.reads

pub leave-requires-clause-end : goal.leave-requires-clause-end
leave-requires-clause-end c =
    subst (λ ends. has_wire (wires ends.items) c.args.lane c.args.side ≡ true) (sym c.room_for_entry.ensures.ends)
    (there_where c.args.self.now.ledger.ends.items c.args.lane c.args.side _
    (c.state_or_out.ensures ∙ ap desk_state c.in-Up.is) refl)

pub leave-requires-clause-up : goal.leave-requires-clause-up
leave-requires-clause-up c =
    ap (λ ends. (ends_in ends.items c.args.lane c.args.side).state) c.room_for_entry.ensures.ends
    ∙ (c.state_or_out.ensures ∙ ap desk_state c.in-Up.is)

pub returns-in_err-room_for_entry-in-Up-clause-reads : goal.returns-in_err-room_for_entry-in-Up-clause-reads
returns-in_err-room_for_entry-in-Up-clause-reads c =
    rw (halt_lost c.from_residual.result c.from_residual.ensures.1)
    (lost_same (settles_end c.args.lane c.args.side) _ _ (c.room_for_entry.ensures.tray (captures_of c.args.shared.now)))

pub returns-in_err-room_for_entry-in-Up-clause-leaves : goal.returns-in_err-room_for_entry-in-Up-clause-leaves
returns-in_err-room_for_entry-in-Up-clause-leaves c =
    leaves_same c.args.lane c.args.side _ _ (c.room_for_entry.ensures.tray (captures_of c.args.shared.now))

pub returns-in_ok-room_for_entry-in-Up-clause-reads : goal.returns-in_ok-room_for_entry-in-Up-clause-reads
returns-in_ok-room_for_entry-in-Up-clause-reads c =
    settle_up c.args.lane c.args.side (c.state_or_out.ensures ∙ ap desk_state c.in-Up.is)
    (detach_ungated c.args.lane c.args.side (c.state_or_out.ensures ∙ ap desk_state c.in-Up.is)
    (rw (sym (c.room_for_entry.ensures.tray (captures_of c.args.shared.now))) c.leave.ensures.reads))

pub returns-in_ok-room_for_entry-in-Up-clause-leaves : goal.returns-in_ok-room_for_entry-in-Up-clause-leaves
returns-in_ok-room_for_entry-in-Up-clause-leaves c =
    rw (sym (c.room_for_entry.ensures.tray (captures_of c.args.shared.now))) c.leave.ensures.leaves
