use Rattle.std.proofs.Common.{refl, sym, ap, ◌∙◌, ◌∷◌, ◌++◌, [], append-nil, if◌then◌else◌}
use Rattle.sn_journal.specs.declared.entry.Entry.TheVariants.{Unattached}
use Rattle.sn_packet.specs.Hold.{frees_of}
use Rattle.sn_seat.specs.Trays.{captures_of, seat_tray}
use Rattle.sn_seat.proofs.AttachRows.{down_same, leaves_noted, looked_down, looked_on}
use Rattle.sn_seat.proofs.Links.{link_within}
use Rattle.sn_seat.proofs.TrayParts.{tray_same}
use Rattle.sn_seat.proofs.seat.Seat.look_and_try.Goals as goal

pub link_of-requires : goal.link_of-requires
link_of-requires g c = link_within c.requires.fits c.args.lane c.args.side c.requires.end

pub returns-then-is_down-clause-reads : goal.returns-then-is_down-clause-reads
returns-then-is_down-clause-reads g c =
    let s = c.args.self.now in
    let caps = captures_of c.args.shared.now in
    let l = c.look_state-seen.ensures in
    let down = sym c.is_down.ensures ∙ c.if-is_down.true in
    let noted = l.entries ∙ ap
    (λ b. s.ledger.journal.entries ++
    (if b then Unattached c.args.lane c.look_state-seen.result c.look_state-seen.result ∷ [] else [])) down in
    let now = tray_same s.stops.items s.roster caps _ _ _ _ 0 0 _ _ _ _ s.counters s.files.items
    (ap (λ w. w.ends) l.wiring) noted refl (ap frees_of l.hold) l.ends in
    looked_down (seat_tray caps s) _ c.args.lane c.args.side c.look_state-seen.result
    (down_same c.look_state-seen.result l.word.word_is ∙ down) refl now

pub returns-then-is_down-clause-leaves : goal.returns-then-is_down-clause-leaves
returns-then-is_down-clause-leaves g c =
    let s = c.args.self.now in
    let caps = captures_of c.args.shared.now in
    let l = c.look_state-seen.ensures in
    let down = sym c.is_down.ensures ∙ c.if-is_down.true in
    let noted = l.entries ∙ ap
    (λ b. s.ledger.journal.entries ++
    (if b then Unattached c.args.lane c.look_state-seen.result c.look_state-seen.result ∷ [] else [])) down in
    let now = tray_same s.stops.items s.roster caps _ _ _ _ 0 0 _ _ _ _ s.counters s.files.items
    (ap (λ w. w.ends) l.wiring) noted refl (ap frees_of l.hold) l.ends in
    leaves_noted c.args.lane c.args.side (Unattached c.args.lane c.look_state-seen.result c.look_state-seen.result)
    (seat_tray caps s) _ now

pub try_up-requires-clause-out : goal.try_up-requires-clause-out
try_up-requires-clause-out g c =
    ap (λ ends. (ends c.args.lane c.args.side).state) c.look_state-seen.ensures.ends ∙ c.requires.out

pub returns-clause-reads : goal.returns-clause-reads
returns-clause-reads g c =
    let s = c.args.self.now in
    let caps = captures_of c.args.shared.now in
    let l = c.look_state-seen.ensures in
    let down = sym c.is_down.ensures ∙ c.if-is_down.false in
    let noted = l.entries ∙ ap
    (λ b. s.ledger.journal.entries ++
    (if b then Unattached c.args.lane c.look_state-seen.result c.look_state-seen.result ∷ [] else [])) down in
    let now = tray_same s.stops.items s.roster caps _ _ _ _ s.gates s.gates _ _ _ _ s.counters s.files.items
    (ap (λ w. w.ends) l.wiring) (noted ∙ append-nil s.ledger.journal.entries) refl (ap frees_of l.hold) l.ends in
    let r = c.try_up.ensures in
    rw (sym now) (looked_on c.args.lane c.args.side _ _ _ r.notes r.reads)

pub returns-clause-leaves : goal.returns-clause-leaves
returns-clause-leaves g c =
    let s = c.args.self.now in
    let caps = captures_of c.args.shared.now in
    let l = c.look_state-seen.ensures in
    let down = sym c.is_down.ensures ∙ c.if-is_down.false in
    let noted = l.entries ∙ ap
    (λ b. s.ledger.journal.entries ++
    (if b then Unattached c.args.lane c.look_state-seen.result c.look_state-seen.result ∷ [] else [])) down in
    let now = tray_same s.stops.items s.roster caps _ _ _ _ s.gates s.gates _ _ _ _ s.counters s.files.items
    (ap (λ w. w.ends) l.wiring) (noted ∙ append-nil s.ledger.journal.entries) refl (ap frees_of l.hold) l.ends in
    rw (sym now) c.try_up.ensures.leaves
