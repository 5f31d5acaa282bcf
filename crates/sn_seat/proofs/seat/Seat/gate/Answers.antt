use Rattle.std.proofs.Common.{refl, ap, ◌∙◌, ◌∷◌, ◌++◌, [], length}
use Rattle.sn_journal.specs.declared.entry.Entry.TheVariants.{Stop}
use Rattle.sn_packet.specs.Hold.{frees_of}
use Rattle.sn_seat.specs.SeatEnds.{ends_in, wires}
use Rattle.sn_seat.specs.Trays.{seat_tray}
use Rattle.sn_seat.proofs.Gating.{named_here}
use Rattle.sn_seat.proofs.TrayParts.{tray_same}
use Rattle.sn_seat.proofs.seat.Seat.gate.Goals as goal

pub returns-then-is_named-clause-step : goal.returns-then-is_named-clause-step
returns-then-is_named-clause-step g c =
    let s = c.args.self.now in
    let same = c.reserve.ensures.same in
    let noted = c.note.ensures in
    record {
      here = λ captures. named_here (seat_tray captures s) _ _ _ _ c.is_named.ensures c.deref.ensures.value
          (ap length (c.entries.ensures ∙ same.entries)) refl
          ∙ c.if-is_named.true;
      tray = λ captures. tray_same s.stops.items s.roster captures _ _ _ _ 0 0 _ _ _ _ s.counters s.files.items
          (ap (λ e. wires e.items) (noted.ends ∙ same.ends))
          (noted.entries ∙ ap (λ e. e ++ Stop ∷ []) same.entries) refl
          (ap frees_of (noted.hold ∙ same.hold)) (ap (λ e. ends_in e.items) (noted.ends ∙ same.ends));
    }

pub returns-clause-step : goal.returns-clause-step
returns-clause-step g c =
    let s = c.args.self.now in
    let same = c.reserve.ensures.same in
    record {
      on = λ captures. named_here (seat_tray captures s) _ _ _ _ c.is_named.ensures c.deref.ensures.value
          (ap length (c.entries.ensures ∙ same.entries)) refl
          ∙ c.if-is_named.false;
      tray = λ captures. tray_same s.stops.items s.roster captures _ _ _ _ _ _ _ _ _ _ s.counters s.files.items
          (ap (λ e. wires e.items) same.ends) same.entries c.saturating_add-self.ensures
          (ap frees_of same.hold) (ap (λ e. ends_in e.items) same.ends);
    }
