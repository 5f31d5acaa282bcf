use Rattle.std.proofs.Common.{rules, refl, sym, ap, ◌≡◌, ◌∙◌, Err}
use Rattle.sn_core.specs.declared.events.Side.TheVariants.{Rx}
use Rattle.sn_packet.specs.Hold.{used_of}
use Rattle.sn_seat.specs.Trays.{captures_of}
use Rattle.sn_seat.proofs.Gating.{gate_read}
use Rattle.sn_seat.proofs.Links.{link_within}
use Rattle.sn_seat.proofs.TrayParts.{tray_same}
use Rattle.sn_journal.specs.declared.entry.Entry.TheVariants.{Take}
use Rattle.sn_app.specs.Desk.{all_released, with_taken}
use Rattle.sn_app.specs.Rows.{row_take}
use Rattle.sn_app.proofs.Gaining.{fresh_laid, others_laid, packet_laid}
use Rattle.sn_app.proofs.OnTrays.{halt_lost}
use Rattle.sn_seat.proofs.LaneRows.{end_stepped, leaves_gated, leaves_same, leaves_stepped, lost_same, take_fails, take_reads}
use Rattle.sn_seat.proofs.seat.Seat.lane_take.Goals as goal

pub returns-in_err-bytes-clause-reads : goal.returns-in_err-bytes-clause-reads
returns-in_err-bytes-clause-reads g c =
    rw (halt_lost c.from_residual.result c.from_residual.ensures.1)
    (lost_same (row_take c.args.lane) _ _ (c.room_to_take.ensures.tray (captures_of c.args.shared.now)))

pub returns-in_err-bytes-clause-others : goal.returns-in_err-bytes-clause-others
returns-in_err-bytes-clause-others g c = λ q differs. ap (λ f. f q) c.room_to_take.ensures.used

pub returns-in_err-bytes-clause-leaves : goal.returns-in_err-bytes-clause-leaves
returns-in_err-bytes-clause-leaves g c =
    leaves_same c.args.lane Rx _ _ (c.room_to_take.ensures.tray (captures_of c.args.shared.now))

pub returns-in_err-gate-clause-reads : goal.returns-in_err-gate-clause-reads
returns-in_err-gate-clause-reads g c =
    let caps = captures_of c.args.shared.now in
    let m = c.room_to_take.new.self in
    let is : c.from_residual-in_err-gate.result ≡ Err c.in_err-gate.field-0.0 = search rules in
    rw (is, sym (c.room_to_take.ensures.tray caps))
    (take_fails (gate_read caps m c.gate.new.self _ c.in_err-gate.ensures.step) c.args.lane)

pub returns-in_err-gate-clause-others : goal.returns-in_err-gate-clause-others
returns-in_err-gate-clause-others g c =
    λ q differs. ap (λ f. f q) (ap used_of c.gate.ensures.hold ∙ c.room_to_take.ensures.used)

pub returns-in_err-gate-clause-leaves : goal.returns-in_err-gate-clause-leaves
returns-in_err-gate-clause-leaves g c =
    let caps = captures_of c.args.shared.now in
    rw (sym (c.room_to_take.ensures.tray caps))
    (leaves_gated c.args.lane Rx caps c.room_to_take.new.self c.gate.new.self (Err c.in_err-gate.field-0.0)
    c.in_err-gate.ensures.step)

pub link_of-requires : goal.link_of-requires
link_of-requires g c = link_within c.requires.fits c.args.lane Rx c.requires.end

pub returns-clause-reads : goal.returns-clause-reads
returns-clause-reads g c =
    let u = c.gate.new.self in
    let caps = captures_of c.args.shared.now in
    let m = c.room_to_take.new.self in
    let l = c.take-place.ensures in
    let p = l.step.packet in
    let now = tray_same u.stops.items u.roster caps _ _ _ _ 0 0 _ _ _ _ u.counters u.files.items
    (ap (λ w. w.ends) l.wiring) l.step.noted refl l.step.came.frees l.ends in
    let same = ap used_of c.gate.ensures.hold ∙ c.room_to_take.ensures.used in
    let came = l.step.came in
    rw (packet_laid _ _ _ p came.used, sym (c.room_to_take.ensures.tray caps))
    (take_reads (gate_read caps m u _ c.in_ok-gate.ensures.step) c.args.lane l.step.at p came.number came.turn came.bytes
    refl now)

pub returns-clause-fresh : goal.returns-clause-fresh
returns-clause-fresh g c =
    let u = c.gate.new.self in
    let caps = captures_of c.args.shared.now in
    let m = c.room_to_take.new.self in
    let l = c.take-place.ensures in
    let p = l.step.packet in
    let now = tray_same u.stops.items u.roster caps _ _ _ _ 0 0 _ _ _ _ u.counters u.files.items
    (ap (λ w. w.ends) l.wiring) l.step.noted refl l.step.came.frees l.ends in
    let same = ap used_of c.gate.ensures.hold ∙ c.room_to_take.ensures.used in
    fresh_laid _ _ _ _ p same l.step.came.fresh l.step.came.used

pub returns-clause-others : goal.returns-clause-others
returns-clause-others g c =
    let u = c.gate.new.self in
    let caps = captures_of c.args.shared.now in
    let m = c.room_to_take.new.self in
    let l = c.take-place.ensures in
    let p = l.step.packet in
    let now = tray_same u.stops.items u.roster caps _ _ _ _ 0 0 _ _ _ _ u.counters u.files.items
    (ap (λ w. w.ends) l.wiring) l.step.noted refl l.step.came.frees l.ends in
    let same = ap used_of c.gate.ensures.hold ∙ c.room_to_take.ensures.used in
    λ q differs. others_laid _ _ _ _ p same l.step.came.used q differs

pub returns-clause-known : goal.returns-clause-known
returns-clause-known g c =
    let u = c.gate.new.self in
    let caps = captures_of c.args.shared.now in
    let m = c.room_to_take.new.self in
    let l = c.take-place.ensures in
    let p = l.step.packet in
    let now = tray_same u.stops.items u.roster caps _ _ _ _ 0 0 _ _ _ _ u.counters u.files.items
    (ap (λ w. w.ends) l.wiring) l.step.noted refl l.step.came.frees l.ends in
    let same = ap used_of c.gate.ensures.hold ∙ c.room_to_take.ensures.used in
    end_stepped c.args.lane Rx caps m u c.in_ok-gate.ensures.step _ _ (Take c.args.lane l.step.at p.number p.turn p.bytes) now
    (λ e. all_released (with_taken e)) refl
    ∙ ap (λ z. all_released (with_taken (z.ends c.args.lane Rx))) (c.room_to_take.ensures.tray caps)

pub returns-clause-leaves : goal.returns-clause-leaves
returns-clause-leaves g c =
    let u = c.gate.new.self in
    let caps = captures_of c.args.shared.now in
    let m = c.room_to_take.new.self in
    let l = c.take-place.ensures in
    let p = l.step.packet in
    let now = tray_same u.stops.items u.roster caps _ _ _ _ 0 0 _ _ _ _ u.counters u.files.items
    (ap (λ w. w.ends) l.wiring) l.step.noted refl l.step.came.frees l.ends in
    let same = ap used_of c.gate.ensures.hold ∙ c.room_to_take.ensures.used in
    rw (sym (c.room_to_take.ensures.tray caps))
    (leaves_stepped c.args.lane Rx caps m u c.in_ok-gate.ensures.step _ _
    (Take c.args.lane l.step.at p.number p.turn p.bytes) now)
