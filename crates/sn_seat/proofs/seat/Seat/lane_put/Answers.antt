use Rattle.std.proofs.Common.{rules, refl, sym, ap, ◌≡◌, ◌∙◌, Err}
use Rattle.sn_core.specs.declared.events.Side.TheVariants.{Tx}
use Rattle.sn_packet.specs.Hold.{used_of}
use Rattle.sn_seat.specs.Trays.{captures_of, seat_tray, seat_used}
use Rattle.sn_seat.proofs.Gating.{gate_read}
use Rattle.sn_seat.proofs.Links.{link_within}
use Rattle.sn_seat.proofs.TrayParts.{tray_same}
use Rattle.sn_app.specs.Desk.{all_published, with_laid}
use Rattle.sn_app.specs.Rows.{row_put}
use Rattle.sn_app.specs.World.{packet_at}
use Rattle.sn_app.proofs.Gaining.{others_gone}
use Rattle.sn_app.proofs.OnTrays.{halt_lost}
use Rattle.sn_seat.specs.PacketSteps.{put_entry}
use Rattle.sn_seat.proofs.LaneRows.{end_stepped, leaves_gated, leaves_stepped, lost_same, put_fails, put_reads}
use Rattle.sn_seat.proofs.seat.Seat.lane_put.Goals as goal

pub returns-in_err-payload-clause-reads : goal.returns-in_err-payload-clause-reads
returns-in_err-payload-clause-reads g c =
    rw (halt_lost c.from_residual.result c.from_residual.ensures.1)
    (lost_same (row_put c.args.lane (packet_at (seat_used c.args.self.now) c.args.place)) _ _ refl)

pub returns-in_err-gate-clause-reads : goal.returns-in_err-gate-clause-reads
returns-in_err-gate-clause-reads g c =
    let caps = captures_of c.args.shared.now in
    let is : c.from_residual-in_err-gate.result ≡ Err c.in_err-gate.field-0.0 = search rules in
    rw is (put_fails (gate_read caps c.args.self.now c.gate.new.self _ c.in_err-gate.ensures.step) c.args.lane
    (packet_at (seat_used c.args.self.now) c.args.place))

pub returns-in_err-gate-clause-leaves : goal.returns-in_err-gate-clause-leaves
returns-in_err-gate-clause-leaves g c =
    leaves_gated c.args.lane Tx (captures_of c.args.shared.now) c.args.self.now c.gate.new.self (Err c.in_err-gate.field-0.0)
    c.in_err-gate.ensures.step

pub link_of-requires : goal.link_of-requires
link_of-requires g c = link_within c.requires.fits c.args.lane Tx c.requires.end

pub returns-clause-reads : goal.returns-clause-reads
returns-clause-reads g c =
    let u = c.gate.new.self in
    let caps = captures_of c.args.shared.now in
    let s = c.args.self.now in
    let l = c.put.ensures in
    let h = c.gate.ensures.hold in
    let p = packet_at (seat_used u) c.args.place in
    let q = packet_at (seat_used s) c.args.place in
    let is : p ≡ q = ap (λ z. packet_at (used_of z) c.args.place) h in
    let now = tray_same u.stops.items u.roster caps _ _ _ _ 0 0 _ _ _ _ u.counters u.files.items
    (ap (λ w. w.ends) l.wiring) l.entries refl l.frees l.ends in
    rw (sym is) (put_reads (gate_read caps s u _ c.in_ok-gate.ensures.step) c.args.lane c.put.result p refl now)

pub returns-clause-others : goal.returns-clause-others
returns-clause-others g c =
    let u = c.gate.new.self in
    let caps = captures_of c.args.shared.now in
    let s = c.args.self.now in
    let l = c.put.ensures in
    let h = c.gate.ensures.hold in
    let p = packet_at (seat_used u) c.args.place in
    let q = packet_at (seat_used s) c.args.place in
    let is : p ≡ q = ap (λ z. packet_at (used_of z) c.args.place) h in
    let now = tray_same u.stops.items u.roster caps _ _ _ _ 0 0 _ _ _ _ u.counters u.files.items
    (ap (λ w. w.ends) l.wiring) l.entries refl l.frees l.ends in
    λ z differs. others_gone _ _ c.args.place l.used z differs ∙ ap (λ hold. used_of hold z) h

pub returns-clause-known : goal.returns-clause-known
returns-clause-known g c =
    let u = c.gate.new.self in
    let caps = captures_of c.args.shared.now in
    let s = c.args.self.now in
    let l = c.put.ensures in
    let h = c.gate.ensures.hold in
    let p = packet_at (seat_used u) c.args.place in
    let q = packet_at (seat_used s) c.args.place in
    let is : p ≡ q = ap (λ z. packet_at (used_of z) c.args.place) h in
    let now = tray_same u.stops.items u.roster caps _ _ _ _ 0 0 _ _ _ _ u.counters u.files.items
    (ap (λ w. w.ends) l.wiring) l.entries refl l.frees l.ends in
    end_stepped c.args.lane Tx caps s u c.in_ok-gate.ensures.step _ _ (put_entry c.args.lane c.put.result p) now
    (λ e. all_published (with_laid q e)) (ap (λ z. all_published (with_laid z ((seat_tray caps u).ends c.args.lane Tx))) is)

pub returns-clause-leaves : goal.returns-clause-leaves
returns-clause-leaves g c =
    let u = c.gate.new.self in
    let caps = captures_of c.args.shared.now in
    let s = c.args.self.now in
    let l = c.put.ensures in
    let h = c.gate.ensures.hold in
    let p = packet_at (seat_used u) c.args.place in
    let q = packet_at (seat_used s) c.args.place in
    let is : p ≡ q = ap (λ z. packet_at (used_of z) c.args.place) h in
    let now = tray_same u.stops.items u.roster caps _ _ _ _ 0 0 _ _ _ _ u.counters u.files.items
    (ap (λ w. w.ends) l.wiring) l.entries refl l.frees l.ends in
    leaves_stepped c.args.lane Tx caps s u c.in_ok-gate.ensures.step _ _ (put_entry c.args.lane c.put.result p) now
