use Rattle.std.proofs.Common.{refl}
use Rattle.sn_app.specs.Desk.{name_of}
use Rattle.sn_app.specs.Rows.{row_give}
use Rattle.sn_app.specs.World.{packet_at}
use Rattle.sn_app.proofs.OnTrays.{halt_lost}
use Rattle.sn_seat.specs.Trays.{seat_tray, seat_used}
use Rattle.sn_seat.proofs.ClaimRows.{leaves_noted, leaves_same}
use Rattle.sn_seat.proofs.GiveRows.{worn_reads}
use Rattle.sn_seat.proofs.LaneRows.{lost_same}
use Rattle.sn_seat.proofs.seat.Seat.keep_worn.Goals as goal

pub returns-in_err-note_worn-clause-reads : goal.returns-in_err-note_worn-clause-reads
returns-in_err-note_worn-clause-reads c =
    λ captures. rw (halt_lost c.from_residual.result c.from_residual.ensures.1)
    (lost_same (row_give (name_of (packet_at (seat_used c.args.self.now) c.args.place))) _ _
    (c.in_err-note_worn.ensures.refused captures))

pub returns-in_err-note_worn-clause-leaves : goal.returns-in_err-note_worn-clause-leaves
returns-in_err-note_worn-clause-leaves c = λ captures. leaves_same _ _ (c.in_err-note_worn.ensures.refused captures)

pub returns-clause-reads : goal.returns-clause-reads
returns-clause-reads c =
    λ captures.
    let s = c.args.self.now in
    worn_reads (seat_tray captures s) _ (name_of (packet_at (seat_used s) c.args.place)) c.requires.worn refl
    (c.in_ok-note_worn.ensures.noted captures)

pub returns-clause-leaves : goal.returns-clause-leaves
returns-clause-leaves c = λ captures. leaves_noted _ _ _ (c.in_ok-note_worn.ensures.noted captures)
