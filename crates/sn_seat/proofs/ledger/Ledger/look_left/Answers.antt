use Rattle.std.proofs.Common.{refl, IsSome}
use Rattle.sn_seat.specs.SeatEnds.{end_in, side_in}
use Rattle.sn_seat.proofs.EndKinds.{saw_closing}
use Rattle.sn_seat.proofs.LedgerEnds.{ends_same, holds_now, is_closing, link_is, quiet_now, rests, side_is, wires_now}
use Rattle.sn_seat.proofs.LedgerSteps.{looks_closing, told_far}
use Rattle.sn_seat.proofs.ledger.Ledger.look_left.Goals as goal

pub look_far-seen-requires : goal.look_far-seen-requires
look_far-seen-requires c =
    let l = c.args.self.now in
    let x = c.index_mut-end.result.now in
    let at = c.end_place-place.ensures.at in
    let read = c.index_mut-end.ensures.value in
    let r = rests l.told l.quiet _ _ _ x at read in
    record {
      lane = link_is l.told l.quiet _ _ _ x at read c.requires.link;
      knows = looks_closing (end_in x.1)
          (is_closing l.told l.quiet _ _ _ x at read c.requires.closing);
      idle = r.half;
    }

pub invariant_of-self-clause-told : goal.invariant_of-self-clause-told
invariant_of-self-clause-told c =
    let l = c.args.self.now in
    let x = c.index_mut-end.result.now in
    let at = c.end_place-place.ensures.at in
    let read = c.index_mut-end.ensures.value in
    let e = c.look_far-seen in
    let w = saw_closing x.1 e.new.self (rests l.told l.quiet _ _ _ x at read) e.ensures.side (side_in x.1) e.result
    e.ensures.step (is_closing l.told l.quiet _ _ _ x at read c.requires.closing) in
    rw (c.add.ensures.added, c.far_entry_at.ensures)
    (told_far l.told l.quiet _ _ _ x at read e.new.self _ e.result (side_in x.1) (side_is l.told l.quiet _ _ _ x at read) w)

pub invariant_of-self-clause-quiet : goal.invariant_of-self-clause-quiet
invariant_of-self-clause-quiet c =
    let l = c.args.self.now in
    let x = c.index_mut-end.result.now in
    let at = c.end_place-place.ensures.at in
    let read = c.index_mut-end.ensures.value in
    let e = c.look_far-seen in
    let w = saw_closing x.1 e.new.self (rests l.told l.quiet _ _ _ x at read) e.ensures.side (side_in x.1) e.result
    e.ensures.step (is_closing l.told l.quiet _ _ _ x at read c.requires.closing) in
    quiet_now l.told l.quiet _ _ _ x at read e.new.self _ _ w

pub returns-clause-ends : goal.returns-clause-ends
returns-clause-ends c =
    let l = c.args.self.now in
    let x = c.index_mut-end.result.now in
    let at = c.end_place-place.ensures.at in
    let read = c.index_mut-end.ensures.value in
    let e = c.look_far-seen in
    let w = saw_closing x.1 e.new.self (rests l.told l.quiet _ _ _ x at read) e.ensures.side (side_in x.1) e.result
    e.ensures.step (is_closing l.told l.quiet _ _ _ x at read c.requires.closing) in
    ends_same l.told l.quiet _ _ _ x at read e.new.self _ _ w refl

pub returns-clause-loaded : goal.returns-clause-loaded
returns-clause-loaded c =
    let l = c.args.self.now in
    let x = c.index_mut-end.result.now in
    let at = c.end_place-place.ensures.at in
    let read = c.index_mut-end.ensures.value in
    let e = c.look_far-seen in
    let w = saw_closing x.1 e.new.self (rests l.told l.quiet _ _ _ x at read) e.ensures.side (side_in x.1) e.result
    e.ensures.step (is_closing l.told l.quiet _ _ _ x at read c.requires.closing) in
    holds_now l.told l.quiet _ _ _ x at read e.new.self _ _ w (λ z. IsSome z.reach) e.ensures.step.some

pub returns-clause-wiring : goal.returns-clause-wiring
returns-clause-wiring c =
    let l = c.args.self.now in
    let x = c.index_mut-end.result.now in
    let at = c.end_place-place.ensures.at in
    let read = c.index_mut-end.ensures.value in
    let e = c.look_far-seen in
    let w = saw_closing x.1 e.new.self (rests l.told l.quiet _ _ _ x at read) e.ensures.side (side_in x.1) e.result
    e.ensures.step (is_closing l.told l.quiet _ _ _ x at read c.requires.closing) in
    rw (wires_now l.told l.quiet _ _ _ x at read e.new.self _ _ w) refl
