use Rattle.std.proofs.Common.{ap, sym, ◌∙◌, arith}
use Rattle.sn_group.specs.Seats.{SeatState, GroupState}
use Rattle.sn_group.proofs.Scanning.{full_each}
use Rattle.sn_group.proofs.Transfers.{is_idle, within}
use Rattle.sn_group.proofs.seat.GroupSeat.give_claim.Goals as goal

pub find_empty-requires-clause-scan : goal.find_empty-requires-clause-scan
find_empty-requires-clause-scan c =
    let same = ap (λ (s : SeatState). s.group) c.self.view_is ∙ c.requires.group ∙ sym (ap (λ (g : GroupState). g.id) c.group.view_is) in
    let words = ap (λ (g : GroupState). g.id.words) c.group.view_is ∙ sym c.cells-cells.ensures.words in
    let slots = ap (λ (g : GroupState). g.id.slots) c.group.view_is ∙ sym c.cells-cells.ensures.slots in
    record {
      all_words = words;
      all_slots = slots;
      within = omega (arith, within _ _ _ _ same c.self.invariant.2 words slots, words);
      idle = is_idle _ _ _ _ _ _ _ c.self.invariant.0 (ap (λ (s : SeatState). s.pending) c.self.view_is ∙ c.requires.idle);
    }

pub returns-in_default-clause-full : goal.returns-in_default-clause-full
returns-in_default-clause-full c =
    let same = ap (λ (s : SeatState). s.group) c.self.view_is ∙ c.requires.group ∙ sym (ap (λ (g : GroupState). g.id) c.group.view_is) in
    let words = ap (λ (g : GroupState). g.id.words) c.group.view_is ∙ sym c.cells-cells.ensures.words in
    let slots = ap (λ (g : GroupState). g.id.slots) c.group.view_is ∙ sym c.cells-cells.ensures.slots in
    full_each _ _ _ _ _ _ c.in_default.ensures.found (omega (arith, within _ _ _ _ same c.self.invariant.2 words slots, words)) c.cells-cells.ensures.count
