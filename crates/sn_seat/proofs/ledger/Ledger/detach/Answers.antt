use Rattle.std.proofs.Common.{refl, ◌∙◌}
use Rattle.sn_seat.specs.SeatEnds.{end_in}
use Rattle.sn_journal.specs.declared.entry.Entry.TheVariants.{Detach}
use Rattle.sn_seat.proofs.LedgerEnds.{ends_now, found_up, is_up, link_is, quiet_now, rests, side_is, told_step, wires_now}
use Rattle.sn_seat.proofs.LedgerSteps.{closer_as, left_wrote}
use Rattle.sn_seat.proofs.ledger.Ledger.detach.Goals as goal

pub detach-answer-requires : goal.detach-answer-requires
detach-answer-requires c =
    let l = c.args.self.now in
    let x = c.index_mut-end.result.now in
    let at = c.end_place-place.ensures.at in
    let read = c.index_mut-end.ensures.value in
    let r = rests l.told l.quiet _ _ _ x at read in
    record {
      lane = link_is l.told l.quiet _ _ _ x at read c.requires.link;
      up = is_up l.told l.quiet _ _ _ x at read c.requires.up;
      idle = r.half;
      synced = r.synced (is_up l.told l.quiet _ _ _ x at read c.requires.up);
    }

pub invariant_of-self-clause-told : goal.invariant_of-self-clause-told
invariant_of-self-clause-told c =
    let l = c.args.self.now in
    let x = c.index_mut-end.result.now in
    let at = c.end_place-place.ensures.at in
    let read = c.index_mut-end.ensures.value in
    let e = c.detach-answer in
    let w = left_wrote x.1 e.new.self (rests l.told l.quiet _ _ _ x at read) e.ensures.side
    (is_up l.told l.quiet _ _ _ x at read c.requires.up) e.result e.ensures.step in
    rw (c.add.ensures.added, c.word_of.ensures)
    (told_step l.told l.quiet _ _ _ x at read e.new.self _ _ w l.hold (Detach c.args.number _) _ refl refl refl refl
    (λ f. refl))

pub invariant_of-self-clause-quiet : goal.invariant_of-self-clause-quiet
invariant_of-self-clause-quiet c =
    let l = c.args.self.now in
    let x = c.index_mut-end.result.now in
    let at = c.end_place-place.ensures.at in
    let read = c.index_mut-end.ensures.value in
    let e = c.detach-answer in
    let w = left_wrote x.1 e.new.self (rests l.told l.quiet _ _ _ x at read) e.ensures.side
    (is_up l.told l.quiet _ _ _ x at read c.requires.up) e.result e.ensures.step in
    quiet_now l.told l.quiet _ _ _ x at read e.new.self _ _ w

pub returns-clause-word : goal.returns-clause-word
returns-clause-word c =
    let l = c.args.self.now in
    let x = c.index_mut-end.result.now in
    let at = c.end_place-place.ensures.at in
    let read = c.index_mut-end.ensures.value in
    found_up c.args.side _ (rests l.told l.quiet _ _ _ x at read) (side_is l.told l.quiet _ _ _ x at read)
    (is_up l.told l.quiet _ _ _ x at read c.requires.up) c.detach-answer.ensures.word

pub returns-clause-ends : goal.returns-clause-ends
returns-clause-ends c =
    let l = c.args.self.now in
    let x = c.index_mut-end.result.now in
    let at = c.end_place-place.ensures.at in
    let read = c.index_mut-end.ensures.value in
    let e = c.detach-answer in
    let w = left_wrote x.1 e.new.self (rests l.told l.quiet _ _ _ x at read) e.ensures.side
    (is_up l.told l.quiet _ _ _ x at read c.requires.up) e.result e.ensures.step in
    ends_now l.told l.quiet _ _ _ x at read e.new.self _ _ w

pub returns-clause-wiring : goal.returns-clause-wiring
returns-clause-wiring c =
    let l = c.args.self.now in
    let x = c.index_mut-end.result.now in
    let at = c.end_place-place.ensures.at in
    let read = c.index_mut-end.ensures.value in
    let e = c.detach-answer in
    let w = left_wrote x.1 e.new.self (rests l.told l.quiet _ _ _ x at read) e.ensures.side
    (is_up l.told l.quiet _ _ _ x at read c.requires.up) e.result e.ensures.step in
    rw (wires_now l.told l.quiet _ _ _ x at read e.new.self _ _ w) refl

pub returns-clause-closer : goal.returns-clause-closer
returns-clause-closer c =
    let l = c.args.self.now in
    let x = c.index_mut-end.result.now in
    let at = c.end_place-place.ensures.at in
    let read = c.index_mut-end.ensures.value in
    let r = rests l.told l.quiet _ _ _ x at read in
    closer_as c.args.side (end_in x.1) (end_in c.detach-answer.new.self) (r.side ∙ side_is l.told l.quiet _ _ _ x at read)
    c.detach-answer.result c.detach-answer.ensures.step
