use Rattle.std.proofs.Common.{refl, sym, ap, ◌∙◌, ◌∷◌, ◌++◌, []}
use Rattle.sn_packet.specs.Hold.{frees_of}
use Rattle.sn_app.specs.Rows.{close_lane}
use Rattle.sn_app.proofs.OnTrays.{halt_lost}
use Rattle.sn_seat.specs.LaneSteps.{far_entry_of}
use Rattle.sn_seat.specs.SeatEnds.{ends_in, wires}
use Rattle.sn_seat.specs.Settling.{phase_by}
use Rattle.sn_seat.specs.Trays.{captures_of, seat_tray}
use Rattle.sn_seat.proofs.DetachRows.{close_reads}
use Rattle.sn_seat.proofs.LaneRows.{lost_same}
use Rattle.sn_seat.proofs.Links.{link_within}
use Rattle.sn_seat.proofs.TrayParts.{tray_same}
use Rattle.sn_seat.proofs.seat.Seat.close.Goals as goal

pub returns-in_err-reserve-clause-reads : goal.returns-in_err-reserve-clause-reads
returns-in_err-reserve-clause-reads c =
    let s = c.args.self.now in
    let caps = captures_of c.args.shared.now in
    let same = c.reserve.ensures.same in
    let now = tray_same s.stops.items s.roster caps _ _ _ _ s.gates s.gates _ _ _ _ s.counters s.files.items
    (ap (λ e. wires e.items) same.ends) same.entries refl (ap frees_of same.hold) (ap (λ e. ends_in e.items) same.ends) in
    rw (halt_lost c.from_residual.result c.from_residual.ensures.1)
    (lost_same (close_lane (phase_by c.args.freeing) c.args.lane c.args.side) (seat_tray caps s) _ now)

pub link_of-requires : goal.link_of-requires
link_of-requires c = link_within c.requires.fits c.args.lane c.args.side c.requires.end

pub empty-requires-clause-closing : goal.empty-requires-clause-closing
empty-requires-clause-closing c =
    ap (λ ends. (ends c.args.lane c.args.side).state)
    (c.look_left.ensures.ends ∙ ap (λ e. ends_in e.items) c.reserve.ensures.same.ends) ∙ c.requires.closing

pub returns-clause-reads : goal.returns-clause-reads
returns-clause-reads c =
    let s = c.args.self.now in
    let caps = captures_of c.args.shared.now in
    let same = c.reserve.ensures.same in
    let l = c.look_left.ensures in
    let entry = far_entry_of c.args.lane c.args.side c.look_left.result in
    let now = tray_same s.stops.items s.roster caps _ _ _ _ 0 0 _ _ _ _ s.counters s.files.items
    (ap (λ w. w.ends) l.wiring ∙ ap (λ e. wires e.items) same.ends) (l.entries ∙ ap (λ es. es ++ entry ∷ []) same.entries) refl
    (ap frees_of (l.hold ∙ same.hold)) (l.ends ∙ ap (λ e. ends_in e.items) same.ends) in
    close_reads (phase_by c.args.freeing) c.args.lane c.args.side c.look_left.result l.few refl
    (rw (sym now) c.empty.ensures.reads)
