use Rattle.std.proofs.Common.{rules, refl, sym, ap, ◌≡◌, ◌∙◌, ◌∷◌, ◌++◌, [], Err}
use Rattle.sn_packet.specs.Hold.{frees_of}
use Rattle.sn_app.specs.Desk.{Tray}
use Rattle.sn_seat.specs.LaneSteps.{attach_entry}
use Rattle.sn_seat.specs.SeatEnds.{ends_in, wires}
use Rattle.sn_seat.specs.Trays.{captures_of, constants_by, no_captures}
use Rattle.sn_seat.proofs.AttachRows.{leaves_tried, notes_gated, open_word, other_entry, tried_is, try_fails, try_reads, up_after}
use Rattle.sn_seat.proofs.Gating.{gate_read}
use Rattle.sn_seat.proofs.LaneRows.{leaves_gated}
use Rattle.sn_seat.proofs.Links.{link_within}
use Rattle.sn_seat.proofs.TrayParts.{tray_same}
use Rattle.sn_seat.proofs.seat.Seat.try_up.Goals as goal

pub returns-in_err-gate-clause-reads : goal.returns-in_err-gate-clause-reads
returns-in_err-gate-clause-reads g c =
    let is : c.from_residual.result ≡ Err c.in_err-gate.field-0.0 = search rules in
    rw is (try_fails (gate_read (captures_of c.args.shared.now) c.args.self.now c.gate.new.self _ c.in_err-gate.ensures.step)
    c.args.lane c.args.side)

pub returns-in_err-gate-clause-notes : goal.returns-in_err-gate-clause-notes
returns-in_err-gate-clause-notes g c =
    let is : c.from_residual.result ≡ Err c.in_err-gate.field-0.0 = search rules in
    rw is (notes_gated c.args.lane c.args.self.now c.gate.new.self c.in_err-gate.field-0.0 c.in_err-gate.ensures.step)

pub returns-in_err-gate-clause-leaves : goal.returns-in_err-gate-clause-leaves
returns-in_err-gate-clause-leaves g c =
    leaves_gated c.args.lane c.args.side (captures_of c.args.shared.now) c.args.self.now c.gate.new.self
    (Err c.in_err-gate.field-0.0) c.in_err-gate.ensures.step

pub link_of-requires : goal.link_of-requires
link_of-requires g c = link_within c.requires.fits c.args.lane c.args.side c.requires.end

pub returns-clause-reads : goal.returns-clause-reads
returns-clause-reads g c =
    let u = c.gate.new.self in
    let caps = captures_of c.args.shared.now in
    let l = c.attach-answer.ensures in
    let now = tray_same u.stops.items u.roster caps _ _ _ _ 0 0 _ _ _ _ u.counters u.files.items
    (ap (λ w. w.ends) l.wiring) l.entries refl (ap frees_of l.hold) l.ends
    ∙ tried_is (constants_by u.stops.items u.roster caps (wires u.ledger.ends.items)) u.ledger.journal.entries u.gates
    (frees_of u.ledger.hold) (ends_in u.ledger.ends.items) u.counters u.files.items c.args.lane c.args.side c.args.seen
    c.attach-answer.result in
    rw c.came_up.ensures
    (try_reads (gate_read caps c.args.self.now u _ c.in_ok-gate.ensures.step) (λ e. refl) c.args.lane c.args.side c.args.seen
    (open_word c.args.side c.args.seen c.requires.word c.requires.open_yet) c.attach-answer.result l.word l.differs now)

pub returns-clause-notes : goal.returns-clause-notes
returns-clause-notes g c =
    let l = c.attach-answer.ensures in
    let entry = attach_entry c.args.lane c.args.seen c.attach-answer.result in
    record {
      entry = entry;
      noted = l.entries ∙ ap (λ (z : Tray). z.log.past ++ entry ∷ []) (c.in_ok-gate.ensures.step.tray no_captures);
      other = other_entry c.args.lane c.args.seen c.attach-answer.result l.differs;
    }

pub returns-clause-up : goal.returns-clause-up
returns-clause-up g c =
    let u = c.gate.new.self in
    let l = c.attach-answer.ensures in
    λ come. ap (λ ends. (ends c.args.lane c.args.side).state) l.ends
    ∙ up_after c.args.lane c.args.side c.attach-answer.result (ends_in u.ledger.ends.items) (sym c.came_up.ensures ∙ come)

pub returns-clause-leaves : goal.returns-clause-leaves
returns-clause-leaves g c =
    let u = c.gate.new.self in
    let caps = captures_of c.args.shared.now in
    let l = c.attach-answer.ensures in
    let now = tray_same u.stops.items u.roster caps _ _ _ _ 0 0 _ _ _ _ u.counters u.files.items
    (ap (λ w. w.ends) l.wiring) l.entries refl (ap frees_of l.hold) l.ends
    ∙ tried_is (constants_by u.stops.items u.roster caps (wires u.ledger.ends.items)) u.ledger.journal.entries u.gates
    (frees_of u.ledger.hold) (ends_in u.ledger.ends.items) u.counters u.files.items c.args.lane c.args.side c.args.seen
    c.attach-answer.result in
    leaves_tried c.args.lane c.args.side c.args.seen c.attach-answer.result _ _ _ (c.in_ok-gate.ensures.step.tray caps) now
