use Rattle.std.proofs.Common.{refl, ap, ◌∙◌}
use Rattle.sn_packet.specs.Hold.{frees_of}
use Rattle.sn_app.specs.Desk.{closing_end, out_end}
use Rattle.sn_app.proofs.OtherEnds.{set_end_at}
use Rattle.sn_seat.specs.SeatEnds.{ends_in}
use Rattle.sn_seat.specs.Settling.{phase_by}
use Rattle.sn_seat.specs.Trays.{captures_of, seat_tray}
use Rattle.sn_seat.proofs.DetachRows.{leave_closing, leave_other, leaves_on, leaves_stepped_at}
use Rattle.sn_seat.proofs.Links.{link_within}
use Rattle.sn_seat.proofs.TrayParts.{tray_same}
use Rattle.sn_seat.proofs.seat.Seat.leave.Goals as goal

pub link_of-requires : goal.link_of-requires
link_of-requires c = link_within c.requires.fits c.args.lane c.args.side c.requires.end

pub close-requires-clause-closing : goal.close-requires-clause-closing
close-requires-clause-closing c =
    ap (λ ends. (ends c.args.lane c.args.side).state) c.in-Closer.ensures.ends
    ∙ ap (λ e. e.state) (set_end_at c.args.lane c.args.side (closing_end 0) (ends_in c.args.self.now.ledger.ends.items))

pub returns-in-Other-clause-reads : goal.returns-in-Other-clause-reads
returns-in-Other-clause-reads c =
    let u = c.args.self.now in
    let caps = captures_of c.args.shared.now in
    let l = c.in-Other.ensures in
    let now = tray_same u.stops.items u.roster caps _ _ _ _ 0 0 _ _ _ _ u.counters u.files.items
    (ap (λ w. w.ends) l.wiring) l.entries refl (ap frees_of l.hold) l.ends in
    leave_other {u = seat_tray caps u} (phase_by c.args.freeing) c.args.lane c.args.side _ l.word refl l.closer now

pub returns-in-Other-clause-out : goal.returns-in-Other-clause-out
returns-in-Other-clause-out c =
    ap (λ ends. (ends c.args.lane c.args.side).state) c.in-Other.ensures.ends
    ∙ ap (λ e. e.state) (set_end_at c.args.lane c.args.side out_end (ends_in c.args.self.now.ledger.ends.items))

pub returns-in-Other-clause-leaves : goal.returns-in-Other-clause-leaves
returns-in-Other-clause-leaves c =
    let u = c.args.self.now in
    let caps = captures_of c.args.shared.now in
    let l = c.in-Other.ensures in
    let now = tray_same u.stops.items u.roster caps _ _ _ _ 0 0 _ _ _ _ u.counters u.files.items
    (ap (λ w. w.ends) l.wiring) l.entries refl (ap frees_of l.hold) l.ends in
    leaves_stepped_at c.args.lane c.args.side out_end _ (seat_tray caps u) _ now

pub returns-in-Closer-clause-reads : goal.returns-in-Closer-clause-reads
returns-in-Closer-clause-reads c =
    let u = c.args.self.now in
    let caps = captures_of c.args.shared.now in
    let l = c.in-Closer.ensures in
    let now = tray_same u.stops.items u.roster caps _ _ _ _ 0 0 _ _ _ _ u.counters u.files.items
    (ap (λ w. w.ends) l.wiring) l.entries refl (ap frees_of l.hold) l.ends in
    leave_closing {u = seat_tray caps u} (phase_by c.args.freeing) c.args.lane c.args.side _ l.word refl l.closer now
    c.close.ensures.reads

pub returns-in-Closer-clause-leaves : goal.returns-in-Closer-clause-leaves
returns-in-Closer-clause-leaves c =
    let u = c.args.self.now in
    let caps = captures_of c.args.shared.now in
    let l = c.in-Closer.ensures in
    let now = tray_same u.stops.items u.roster caps _ _ _ _ 0 0 _ _ _ _ u.counters u.files.items
    (ap (λ w. w.ends) l.wiring) l.entries refl (ap frees_of l.hold) l.ends in
    leaves_on c.args.lane c.args.side _ _ _
    (leaves_stepped_at c.args.lane c.args.side (closing_end 0) _ (seat_tray caps u) _ now) c.close.ensures.leaves
