use Rattle.std.proofs.Common.{rules, refl, ap, ◌≡◌, Err}
use Rattle.sn_core.specs.declared.events.Side.TheVariants.{Tx}
use Rattle.sn_packet.specs.Hold.{frees_of}
use Rattle.sn_app.specs.Desk.{with_known}
use Rattle.sn_seat.specs.Trays.{captures_of}
use Rattle.sn_seat.proofs.Gating.{gate_read}
use Rattle.sn_seat.proofs.Links.{link_within}
use Rattle.sn_seat.proofs.TrayParts.{tray_same}
use Rattle.sn_journal.specs.declared.entry.Entry.TheVariants.{Room}
use Rattle.sn_seat.proofs.LaneRows.{end_stepped, leaves_gated, leaves_stepped, room_fails, room_reads}
use Rattle.sn_seat.proofs.seat.Seat.lane_room.Goals as goal

pub returns-in_err-gate-clause-reads : goal.returns-in_err-gate-clause-reads
returns-in_err-gate-clause-reads g c =
    let is : c.from_residual.result ≡ Err c.in_err-gate.field-0.0 = search rules in
    rw is (room_fails (gate_read (captures_of c.args.shared.now) c.args.self.now c.gate.new.self _
    c.in_err-gate.ensures.step) c.args.lane)

pub returns-in_err-gate-clause-leaves : goal.returns-in_err-gate-clause-leaves
returns-in_err-gate-clause-leaves g c =
    leaves_gated c.args.lane Tx (captures_of c.args.shared.now) c.args.self.now c.gate.new.self
    (Err c.in_err-gate.field-0.0) c.in_err-gate.ensures.step

pub link_of-requires : goal.link_of-requires
link_of-requires g c = link_within c.requires.fits c.args.lane Tx c.requires.end

pub returns-clause-reads : goal.returns-clause-reads
returns-clause-reads g c =
    let u = c.gate.new.self in
    let caps = captures_of c.args.shared.now in
    let l = c.look_far-seen.ensures in
    let now = tray_same u.stops.items u.roster caps _ _ _ _ 0 0 _ _ _ _ u.counters u.files.items
    (ap (λ w. w.ends) l.wiring) l.entries refl (ap frees_of l.hold) l.ends in
    room_reads (gate_read (captures_of c.args.shared.now) c.args.self.now c.gate.new.self _ c.in_ok-gate.ensures.step)
    c.args.lane c.look_far-seen.result refl l.few now

pub returns-clause-known : goal.returns-clause-known
returns-clause-known g c =
    let u = c.gate.new.self in
    let caps = captures_of c.args.shared.now in
    let l = c.look_far-seen.ensures in
    let now = tray_same u.stops.items u.roster caps _ _ _ _ 0 0 _ _ _ _ u.counters u.files.items
    (ap (λ w. w.ends) l.wiring) l.entries refl (ap frees_of l.hold) l.ends in
    end_stepped c.args.lane Tx caps c.args.self.now u c.in_ok-gate.ensures.step _ _ (Room c.args.lane c.look_far-seen.result) now
    (with_known c.look_far-seen.result) refl

pub returns-clause-leaves : goal.returns-clause-leaves
returns-clause-leaves g c =
    let u = c.gate.new.self in
    let caps = captures_of c.args.shared.now in
    let l = c.look_far-seen.ensures in
    let now = tray_same u.stops.items u.roster caps _ _ _ _ 0 0 _ _ _ _ u.counters u.files.items
    (ap (λ w. w.ends) l.wiring) l.entries refl (ap frees_of l.hold) l.ends in
    leaves_stepped c.args.lane Tx caps c.args.self.now u c.in_ok-gate.ensures.step _ _
    (Room c.args.lane c.look_far-seen.result) now
