use Rattle.std.proofs.Common.{refl, sym, ap, ◌∙◌, ◌∷◌, ◌++◌, [], length, length-append, false, true}
use Rattle.sn_packet.specs.Hold.{frees_of}
use Rattle.sn_packet.proofs.Puts.{some_laid}
use Rattle.sn_journal.specs.declared.entry.Entry.TheVariants.{Drain, Reset}
use Rattle.sn_app.specs.Desk.{Tray, closing_end, name_of, out_end}
use Rattle.sn_app.specs.Gates.{reclaiming, working}
use Rattle.sn_app.specs.Rows.{drain_one}
use Rattle.sn_app.proofs.Gaining.{gained}
use Rattle.sn_app.proofs.OnTrays.{halt_lost}
use Rattle.sn_app.proofs.OtherEnds.{set_end_at}
use Rattle.sn_seat.specs.SeatEnds.{ends_in}
use Rattle.sn_seat.specs.Settling.{phase_by}
use Rattle.sn_seat.specs.Trays.{captures_of, seat_tray}
use Rattle.sn_seat.proofs.ClaimRows.{there_laid}
use Rattle.sn_seat.proofs.DetachRows.{drain_ended, drain_took, drained_by, leaves_stepped_at, leaves_freed, took_freed, took_kept}
use Rattle.sn_seat.proofs.LaneRows.{leaves_same, lost_same}
use Rattle.sn_seat.proofs.Links.{link_within}
use Rattle.sn_seat.proofs.TrayParts.{more_free, tray_freed, tray_same}
use Rattle.sn_seat.proofs.seat.Seat.drain.Goals as goal

pub returns-in_err-room_for_packet-clause-reads : goal.returns-in_err-room_for_packet-clause-reads
returns-in_err-room_for_packet-clause-reads c =
    rw (halt_lost c.from_residual.result c.from_residual.ensures.1)
    (lost_same (drain_one (phase_by c.args.freeing) c.args.lane c.args.side) _ _
    (c.room_for_packet.ensures.tray (captures_of c.args.shared.now)))

pub returns-in_err-room_for_packet-clause-leaves : goal.returns-in_err-room_for_packet-clause-leaves
returns-in_err-room_for_packet-clause-leaves c =
    leaves_same c.args.lane c.args.side _ _ (c.room_for_packet.ensures.tray (captures_of c.args.shared.now))

pub link_of-requires : goal.link_of-requires
link_of-requires c = link_within c.requires.fits c.args.lane c.args.side c.requires.end

pub free-requires : goal.free-requires
free-requires c =
    let came = c.in-Some.ensures.step.came in
    some_laid _ _ _ _ came.used

pub returns-in-None-clause-reads : goal.returns-in-None-clause-reads
returns-in-None-clause-reads c =
    let caps = captures_of c.args.shared.now in
    let m = c.room_for_packet.new.self in
    let l = c.in-None.ensures in
    let now = tray_same m.stops.items m.roster caps _ _ _ _ 0 0 _ _ _ _ m.counters m.files.items
    (ap (λ w. w.ends) l.wiring) l.step.0 refl (ap frees_of l.step.1) l.ends in
    rw (sym (c.room_for_packet.ensures.tray caps))
    (drain_ended (phase_by c.args.freeing) (seat_tray caps m) _ c.args.lane c.args.side refl now)

pub returns-in-None-clause-one_more : goal.returns-in-None-clause-one_more
returns-in-None-clause-one_more c =
    let l = c.in-None.ensures in
    let same = ap (λ (t : Tray). t.log.past) (c.room_for_packet.ensures.tray (captures_of c.args.shared.now)) in
    let now = l.step.0 ∙ ap (λ es. es ++ Reset c.args.lane ∷ []) same in
    ap length now ∙ length-append c.args.self.now.ledger.journal.entries (Reset c.args.lane ∷ [])

pub returns-in-None-clause-out : goal.returns-in-None-clause-out
returns-in-None-clause-out c =
    let m = c.room_for_packet.new.self in
    λ none. ap (λ ends. (ends c.args.lane c.args.side).state) c.in-None.ensures.ends
    ∙ ap (λ e. e.state) (set_end_at c.args.lane c.args.side out_end (ends_in m.ledger.ends.items))

pub returns-in-None-clause-leaves : goal.returns-in-None-clause-leaves
returns-in-None-clause-leaves c =
    let caps = captures_of c.args.shared.now in
    let m = c.room_for_packet.new.self in
    let l = c.in-None.ensures in
    let now = tray_same m.stops.items m.roster caps _ _ _ _ 0 0 _ _ _ _ m.counters m.files.items
    (ap (λ w. w.ends) l.wiring) l.step.0 refl (ap frees_of l.step.1) l.ends in
    rw (sym (c.room_for_packet.ensures.tray caps))
    (leaves_stepped_at c.args.lane c.args.side out_end (Reset c.args.lane) (seat_tray caps m) _ now)

pub returns-else-not-freeing-clause-reads : goal.returns-else-not-freeing-clause-reads
returns-else-not-freeing-clause-reads c =
    let caps = captures_of c.args.shared.now in
    let m = c.room_for_packet.new.self in
    let l = c.in-Some.ensures in
    let p = l.step.packet in
    let came = l.step.came in
    let now = tray_freed m.stops.items m.roster caps _ _ _ _ 0 _ _ _ _ m.counters m.files.items p (ap (λ w. w.ends) l.wiring)
    l.step.noted (more_free _ _ _ _ p c.free.ensures.frees came.frees (there_laid c.drain.new.self.hold _ _ p came.used))
    l.ends in
    rw (sym (c.room_for_packet.ensures.tray caps))
    (drained_by c.args.freeing true c.args.lane c.args.side c.if-not-freeing.false
    (drain_took working (seat_tray caps m) _ c.args.lane c.args.side l.step.at (name_of p) came.number came.turn refl
    (took_freed (name_of p) _ _ now)))

pub returns-else-not-freeing-clause-one_more : goal.returns-else-not-freeing-clause-one_more
returns-else-not-freeing-clause-one_more c =
    let l = c.in-Some.ensures in
    let p = l.step.packet in
    let entry = Drain c.args.lane l.step.at p.number p.turn in
    let same = ap (λ (t : Tray). t.log.past) (c.room_for_packet.ensures.tray (captures_of c.args.shared.now)) in
    let now = l.step.noted ∙ ap (λ es. es ++ entry ∷ []) same in
    ap length now ∙ length-append c.args.self.now.ledger.journal.entries (entry ∷ [])

pub returns-else-not-freeing-clause-closing : goal.returns-else-not-freeing-clause-closing
returns-else-not-freeing-clause-closing c =
    let m = c.room_for_packet.new.self in
    λ more. ap (λ ends. (ends c.args.lane c.args.side).state) c.in-Some.ensures.ends
    ∙ ap (λ e. e.state) (set_end_at c.args.lane c.args.side (closing_end 0) (ends_in m.ledger.ends.items))

pub returns-else-not-freeing-clause-used : goal.returns-else-not-freeing-clause-used
returns-else-not-freeing-clause-used c =
    let came = c.in-Some.ensures.step.came in
    λ freeing. gained _ _ _ _ c.in-Some.ensures.step.packet came.fresh came.used c.free.ensures.used
    ∙ c.room_for_packet.ensures.used

pub returns-else-not-freeing-clause-leaves : goal.returns-else-not-freeing-clause-leaves
returns-else-not-freeing-clause-leaves c =
    let caps = captures_of c.args.shared.now in
    let m = c.room_for_packet.new.self in
    let l = c.in-Some.ensures in
    let p = l.step.packet in
    let came = l.step.came in
    let now = tray_freed m.stops.items m.roster caps _ _ _ _ 0 _ _ _ _ m.counters m.files.items p (ap (λ w. w.ends) l.wiring)
    l.step.noted (more_free _ _ _ _ p c.free.ensures.frees came.frees (there_laid c.drain.new.self.hold _ _ p came.used))
    l.ends in
    rw (sym (c.room_for_packet.ensures.tray caps))
    (leaves_freed c.args.lane c.args.side (closing_end 0) (Drain c.args.lane l.step.at p.number p.turn) (name_of p)
    (seat_tray caps m) _ now)

-- what stays held
pub returns-then-not-freeing-clause-reads : goal.returns-then-not-freeing-clause-reads
returns-then-not-freeing-clause-reads c =
    let caps = captures_of c.args.shared.now in
    let m = c.room_for_packet.new.self in
    let l = c.in-Some.ensures in
    let p = l.step.packet in
    let came = l.step.came in
    let now = tray_same m.stops.items m.roster caps _ _ _ _ 0 0 _ _ _ _ m.counters m.files.items
    (ap (λ w. w.ends) l.wiring) l.step.noted refl came.frees l.ends in
    rw (sym (c.room_for_packet.ensures.tray caps))
    (drained_by c.args.freeing false c.args.lane c.args.side c.if-not-freeing.true
    (drain_took reclaiming (seat_tray caps m) _ c.args.lane c.args.side l.step.at (name_of p) came.number came.turn refl
    (took_kept (name_of p) _ _ now)))

pub returns-then-not-freeing-clause-one_more : goal.returns-then-not-freeing-clause-one_more
returns-then-not-freeing-clause-one_more c =
    let l = c.in-Some.ensures in
    let p = l.step.packet in
    let entry = Drain c.args.lane l.step.at p.number p.turn in
    let same = ap (λ (t : Tray). t.log.past) (c.room_for_packet.ensures.tray (captures_of c.args.shared.now)) in
    let now = l.step.noted ∙ ap (λ es. es ++ entry ∷ []) same in
    ap length now ∙ length-append c.args.self.now.ledger.journal.entries (entry ∷ [])

pub returns-then-not-freeing-clause-closing : goal.returns-then-not-freeing-clause-closing
returns-then-not-freeing-clause-closing c =
    let m = c.room_for_packet.new.self in
    λ more. ap (λ ends. (ends c.args.lane c.args.side).state) c.in-Some.ensures.ends
    ∙ ap (λ e. e.state) (set_end_at c.args.lane c.args.side (closing_end 0) (ends_in m.ledger.ends.items))

pub returns-then-not-freeing-clause-leaves : goal.returns-then-not-freeing-clause-leaves
returns-then-not-freeing-clause-leaves c =
    let caps = captures_of c.args.shared.now in
    let m = c.room_for_packet.new.self in
    let l = c.in-Some.ensures in
    let p = l.step.packet in
    let now = tray_same m.stops.items m.roster caps _ _ _ _ 0 0 _ _ _ _ m.counters m.files.items
    (ap (λ w. w.ends) l.wiring) l.step.noted refl l.step.came.frees l.ends in
    rw (sym (c.room_for_packet.ensures.tray caps))
    (leaves_stepped_at c.args.lane c.args.side (closing_end 0) (Drain c.args.lane l.step.at p.number p.turn)
    (seat_tray caps m) _ now)
