use Rattle.std.proofs.Common.{rules, refl, subst, sym, ap, ◌≡◌, ◌≤◌, ◌∙◌, All, Err, Ok}
use Rattle.std.proofs.lemmas.Option.{slice_get_within}
use Rattle.sn_packet.specs.Hold.{frees_of}
use Rattle.sn_app.specs.Desk.{Tray}
use Rattle.sn_app.proofs.OnTrays.{leaves_then}
use Rattle.sn_seat.specs.SeatEnds.{ends_in, wires}
use Rattle.sn_seat.specs.Fitting.{Bond}
use Rattle.sn_seat.specs.Told.{of_channel}
use Rattle.sn_seat.specs.Trays.{bond_of, captures_of}
use Rattle.sn_seat.proofs.ClaimRows.{leaves_gated, leaves_noted}
use Rattle.sn_seat.proofs.EndLists.{some_same}
use Rattle.sn_seat.proofs.Gating.{gate_read}
use Rattle.sn_seat.proofs.GiveRows.{hear_fails, hear_reads}
use Rattle.sn_seat.proofs.Links.{channel_at}
use Rattle.sn_seat.proofs.TrayParts.{tray_same}
use Rattle.sn_seat.proofs.seat.Seat.hear.Goals as goal

pub returns-in_err-gate-clause-reads : goal.returns-in_err-gate-clause-reads
returns-in_err-gate-clause-reads g c =
    let is : c.from_residual.result ≡ Err c.in_err-gate.field-0.0 = search rules in
    rw is (hear_fails (gate_read (captures_of c.args.shared.now) c.args.self.now c.gate.new.self _ c.in_err-gate.ensures.step))

pub returns-in_err-gate-clause-leaves : goal.returns-in_err-gate-clause-leaves
returns-in_err-gate-clause-leaves g c =
    leaves_gated (captures_of c.args.shared.now) c.args.self.now c.gate.new.self (Err c.in_err-gate.field-0.0)
    c.in_err-gate.ensures.step

pub channel_of-requires : goal.channel_of-requires
channel_of-requires g c = slice_get_within _ _ _ (channel_at c.requires.fits (bond_of c.gate.new.self) c.gate.ensures.kept)

pub hear-due-requires-clause-channel : goal.hear-due-requires-clause-channel
hear-due-requires-clause-channel g c =
    some_same _ _ (sym (channel_at c.requires.fits (bond_of c.gate.new.self) c.gate.ensures.kept) ∙ c.channel_of.ensures)

pub returns-clause-reads : goal.returns-clause-reads
returns-clause-reads g c =
    let u = c.gate.new.self in
    let caps = captures_of c.args.shared.now in
    let l = c.hear-due.ensures in
    let now = tray_same u.stops.items u.roster caps _ _ _ _ 0 0 _ _ _ _ u.counters u.files.items
    (ap (λ e. wires e.items) l.ends) l.entries refl (ap frees_of l.hold) (ap (λ e. ends_in e.items) l.ends) in
    hear_reads c.hear-due.result (gate_read caps c.args.self.now u _ c.in_ok-gate.ensures.step) refl now

pub returns-clause-leaves : goal.returns-clause-leaves
returns-clause-leaves g c =
    let u = c.gate.new.self in
    let caps = captures_of c.args.shared.now in
    let l = c.hear-due.ensures in
    let now = tray_same u.stops.items u.roster caps _ _ _ _ 0 0 _ _ _ _ u.counters u.files.items
    (ap (λ e. wires e.items) l.ends) l.entries refl (ap frees_of l.hold) (ap (λ e. ends_in e.items) l.ends) in
    leaves_then (leaves_gated caps c.args.self.now u (Ok tt) c.in_ok-gate.ensures.step) (leaves_noted _ _ _ now)

pub returns-clause-met : goal.returns-clause-met
returns-clause-met g c =
    subst (λ m. m ≤ c.hear-due.result) (ap (λ (b : Bond). b.wiring.met) c.gate.ensures.kept) c.hear-due.ensures.met

pub returns-clause-rising : goal.returns-clause-rising
returns-clause-rising g c =
    subst (λ past. All (λ m. m ≤ c.hear-due.result) (of_channel past))
    (ap (λ (t : Tray). t.log.past) (c.in_ok-gate.ensures.step.tray (captures_of c.args.shared.now))) c.hear-due.ensures.rising
