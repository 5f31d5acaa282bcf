use Rattle.std.proofs.Common.{refl}
use Rattle.sn_seat.specs.SeatEnds.{end_in, side_in}
use Rattle.sn_seat.proofs.EndKinds.{saw_up}
use Rattle.sn_seat.proofs.LedgerEnds.{ends_now, is_up, link_is, quiet_now, rests, side_is, stands, wires_now}
use Rattle.sn_seat.proofs.LedgerSteps.{looks_up, told_far}
use Rattle.sn_seat.proofs.ledger.Ledger.look_far.Goals as goal

pub look_far-seen-requires : goal.look_far-seen-requires
look_far-seen-requires c =
    let l = c.args.self.now in
    let x = c.index_mut-end.result.now in
    let at = c.end_place-place.ensures.at in
    let read = c.index_mut-end.ensures.value in
    let r = rests l.told l.quiet _ _ _ x at read in
    record {
      lane = link_is l.told l.quiet _ _ _ x at read c.requires.link;
      knows = looks_up (end_in x.1)
          (is_up l.told l.quiet _ _ _ x at read c.requires.up)
          (r.synced (is_up l.told l.quiet _ _ _ x at read c.requires.up));
      idle = r.half;
    }

pub invariant_of-self-clause-told : goal.invariant_of-self-clause-told
invariant_of-self-clause-told c =
    let l = c.args.self.now in
    let x = c.index_mut-end.result.now in
    let at = c.end_place-place.ensures.at in
    let read = c.index_mut-end.ensures.value in
    let e = c.look_far-seen in
    let w = saw_up x.1 e.new.self (rests l.told l.quiet _ _ _ x at read) e.ensures.side (side_in x.1) e.result
    e.ensures.step (is_up l.told l.quiet _ _ _ x at read c.requires.up) in
    rw (c.add.ensures.added, c.far_entry_at.ensures)
    (told_far l.told l.quiet _ _ _ x at read e.new.self _ e.result (side_in x.1) (side_is l.told l.quiet _ _ _ x at read) w)

pub invariant_of-self-clause-quiet : goal.invariant_of-self-clause-quiet
invariant_of-self-clause-quiet c =
    let l = c.args.self.now in
    let x = c.index_mut-end.result.now in
    let at = c.end_place-place.ensures.at in
    let read = c.index_mut-end.ensures.value in
    let e = c.look_far-seen in
    let w = saw_up x.1 e.new.self (rests l.told l.quiet _ _ _ x at read) e.ensures.side (side_in x.1) e.result
    e.ensures.step (is_up l.told l.quiet _ _ _ x at read c.requires.up) in
    quiet_now l.told l.quiet _ _ _ x at read e.new.self _ _ w

pub returns-clause-ends : goal.returns-clause-ends
returns-clause-ends c =
    let l = c.args.self.now in
    let x = c.index_mut-end.result.now in
    let at = c.end_place-place.ensures.at in
    let read = c.index_mut-end.ensures.value in
    let e = c.look_far-seen in
    let w = saw_up x.1 e.new.self (rests l.told l.quiet _ _ _ x at read) e.ensures.side (side_in x.1) e.result
    e.ensures.step (is_up l.told l.quiet _ _ _ x at read c.requires.up) in
    rw (stands l.told l.quiet _ _ _ x at read) (ends_now l.told l.quiet _ _ _ x at read e.new.self _ _ w)

pub returns-clause-wiring : goal.returns-clause-wiring
returns-clause-wiring c =
    let l = c.args.self.now in
    let x = c.index_mut-end.result.now in
    let at = c.end_place-place.ensures.at in
    let read = c.index_mut-end.ensures.value in
    let e = c.look_far-seen in
    let w = saw_up x.1 e.new.self (rests l.told l.quiet _ _ _ x at read) e.ensures.side (side_in x.1) e.result
    e.ensures.step (is_up l.told l.quiet _ _ _ x at read c.requires.up) in
    rw (wires_now l.told l.quiet _ _ _ x at read e.new.self _ _ w) refl
