use Rattle.std.proofs.Common.{refl, ◌≡◌, Some}
use Rattle.sn_seat.specs.SeatEnds.{end_in, side_in}
use Rattle.sn_seat.proofs.LedgerEnds.{found_out, holds_here, is_out, link_is, quiet_now, rests, side_is, wires_now}
use Rattle.sn_seat.proofs.LedgerSteps.{attached_wrote, differs_from, ends_attached, told_attach}
use Rattle.sn_seat.proofs.ledger.Ledger.attach.Goals as goal

pub attach-answer-requires : goal.attach-answer-requires
attach-answer-requires c =
    let l = c.args.self.now in
    let x = c.index_mut-end.result.now in
    let at = c.end_place-place.ensures.at in
    let read = c.index_mut-end.ensures.value in
    record {
      lane = link_is l.told l.quiet _ _ _ x at read c.requires.link;
      out = is_out l.told l.quiet _ _ _ x at read c.requires.out;
      seen = holds_here l.told l.quiet _ _ _ x at read (λ z. z.seen ≡ Some c.args.seen) c.requires.seen;
      open_yet = c.requires.open_yet;
    }

pub invariant_of-self-clause-told : goal.invariant_of-self-clause-told
invariant_of-self-clause-told c =
    let l = c.args.self.now in
    let x = c.index_mut-end.result.now in
    let at = c.end_place-place.ensures.at in
    let read = c.index_mut-end.ensures.value in
    let e = c.attach-answer in
    let w = attached_wrote x.1 e.new.self (rests l.told l.quiet _ _ _ x at read) e.ensures.side
    (is_out l.told l.quiet _ _ _ x at read c.requires.out) c.args.seen e.result e.ensures.step in
    rw (c.add.ensures.added, c.attach_entry_of.ensures)
    (told_attach l.told l.quiet _ _ _ x at read e.new.self _ c.args.seen e.result w)

pub invariant_of-self-clause-quiet : goal.invariant_of-self-clause-quiet
invariant_of-self-clause-quiet c =
    let l = c.args.self.now in
    let x = c.index_mut-end.result.now in
    let at = c.end_place-place.ensures.at in
    let read = c.index_mut-end.ensures.value in
    let e = c.attach-answer in
    let w = attached_wrote x.1 e.new.self (rests l.told l.quiet _ _ _ x at read) e.ensures.side
    (is_out l.told l.quiet _ _ _ x at read c.requires.out) c.args.seen e.result e.ensures.step in
    quiet_now l.told l.quiet _ _ _ x at read e.new.self _ _ w

pub returns-clause-word : goal.returns-clause-word
returns-clause-word c =
    let l = c.args.self.now in
    let x = c.index_mut-end.result.now in
    let at = c.end_place-place.ensures.at in
    let read = c.index_mut-end.ensures.value in
    found_out c.args.side _ (rests l.told l.quiet _ _ _ x at read) (side_is l.told l.quiet _ _ _ x at read)
    (is_out l.told l.quiet _ _ _ x at read c.requires.out) c.attach-answer.ensures.word

pub returns-clause-ends : goal.returns-clause-ends
returns-clause-ends c =
    let l = c.args.self.now in
    let x = c.index_mut-end.result.now in
    let at = c.end_place-place.ensures.at in
    let read = c.index_mut-end.ensures.value in
    let e = c.attach-answer in
    let w = attached_wrote x.1 e.new.self (rests l.told l.quiet _ _ _ x at read) e.ensures.side
    (is_out l.told l.quiet _ _ _ x at read c.requires.out) c.args.seen e.result e.ensures.step in
    ends_attached l.told l.quiet _ _ _ x at read e.new.self _ e.result w

pub returns-clause-wiring : goal.returns-clause-wiring
returns-clause-wiring c =
    let l = c.args.self.now in
    let x = c.index_mut-end.result.now in
    let at = c.end_place-place.ensures.at in
    let read = c.index_mut-end.ensures.value in
    let e = c.attach-answer in
    let w = attached_wrote x.1 e.new.self (rests l.told l.quiet _ _ _ x at read) e.ensures.side
    (is_out l.told l.quiet _ _ _ x at read c.requires.out) c.args.seen e.result e.ensures.step in
    rw (wires_now l.told l.quiet _ _ _ x at read e.new.self _ _ w) refl

pub returns-clause-differs : goal.returns-clause-differs
returns-clause-differs c = let x = c.index_mut-end.result.now in differs_from (side_in x.1) c.args.seen (end_in x.1)
    (end_in c.attach-answer.new.self) c.attach-answer.result c.attach-answer.ensures.step
