use Rattle.std.proofs.Common.{refl, sym, ◌∙◌}
use Rattle.sn_core.specs.declared.events.Side.TheVariants.{Rx}
use Rattle.sn_seat.specs.SeatEnds.{end_in}
use Rattle.sn_seat.proofs.EndKinds.{took}
use Rattle.sn_seat.proofs.LedgerEnds.{ends_now, is_up, link_is, quiet_now, rests, side_is, stands, wires_now}
use Rattle.sn_seat.proofs.PacketTelling.{may_move, told_take}
use Rattle.sn_seat.proofs.ledger.Ledger.take.Goals as goal

pub take-packet-requires-clause-lane : goal.take-packet-requires-clause-lane
take-packet-requires-clause-lane c =
    let l = c.args.self.now in
    let x = c.index_mut-end.result.now in
    let at = c.end_place-k.ensures.at in
    let read = c.index_mut-end.ensures.value in
    link_is l.told l.quiet _ _ _ x at read c.requires.link

pub take-packet-requires-clause-up : goal.take-packet-requires-clause-up
take-packet-requires-clause-up c =
    let l = c.args.self.now in
    let x = c.index_mut-end.result.now in
    let at = c.end_place-k.ensures.at in
    let read = c.index_mut-end.ensures.value in
    is_up l.told l.quiet _ _ _ x at read c.requires.up

pub take-packet-requires-clause-idle : goal.take-packet-requires-clause-idle
take-packet-requires-clause-idle c =
    let l = c.args.self.now in
    let x = c.index_mut-end.result.now in
    let at = c.end_place-k.ensures.at in
    let read = c.index_mut-end.ensures.value in
    let r = rests l.told l.quiet _ _ _ x at read in
    r.half

pub take-packet-requires-clause-seen : goal.take-packet-requires-clause-seen
take-packet-requires-clause-seen c =
    let l = c.args.self.now in
    let x = c.index_mut-end.result.now in
    let at = c.end_place-k.ensures.at in
    let read = c.index_mut-end.ensures.value in
    may_move c.args.number Rx l.ends.items (end_in x.1) (stands l.told l.quiet _ _ _ x at read)
    (is_up l.told l.quiet _ _ _ x at read c.requires.up) c.requires.known

pub invariant_of-self-clause-told : goal.invariant_of-self-clause-told
invariant_of-self-clause-told c =
    let l = c.args.self.now in
    let x = c.index_mut-end.result.now in
    let at = c.end_place-k.ensures.at in
    let read = c.index_mut-end.ensures.value in
    let e = c.take-packet in
    let w = took x.1 e.new.self (rests l.told l.quiet _ _ _ x at read)
    (e.ensures.side ∙ sym (side_is l.told l.quiet _ _ _ x at read)) e.result
    (is_up l.told l.quiet _ _ _ x at read c.requires.up) e.ensures.step in
    rw c.add.ensures.added
    (told_take l.told l.quiet _ _ _ x at read e.new.self _ c.lay.new.self e.result c.place-at.result c.number.result
    c.turn.result _ c.place-at.ensures
    c.number.ensures.value c.turn.ensures.value c.payload_of-payload.ensures c.lay.ensures.weight w)

pub invariant_of-self-clause-quiet : goal.invariant_of-self-clause-quiet
invariant_of-self-clause-quiet c =
    let l = c.args.self.now in
    let x = c.index_mut-end.result.now in
    let at = c.end_place-k.ensures.at in
    let read = c.index_mut-end.ensures.value in
    let e = c.take-packet in
    let w = took x.1 e.new.self (rests l.told l.quiet _ _ _ x at read)
    (e.ensures.side ∙ sym (side_is l.told l.quiet _ _ _ x at read)) e.result
    (is_up l.told l.quiet _ _ _ x at read c.requires.up) e.ensures.step in
    quiet_now l.told l.quiet _ _ _ x at read e.new.self _ _ w

pub returns-clause-ends : goal.returns-clause-ends
returns-clause-ends c =
    let l = c.args.self.now in
    let x = c.index_mut-end.result.now in
    let at = c.end_place-k.ensures.at in
    let read = c.index_mut-end.ensures.value in
    let e = c.take-packet in
    let w = took x.1 e.new.self (rests l.told l.quiet _ _ _ x at read)
    (e.ensures.side ∙ sym (side_is l.told l.quiet _ _ _ x at read)) e.result
    (is_up l.told l.quiet _ _ _ x at read c.requires.up) e.ensures.step in
    rw (stands l.told l.quiet _ _ _ x at read) (ends_now l.told l.quiet _ _ _ x at read e.new.self _ _ w)

pub returns-clause-wiring : goal.returns-clause-wiring
returns-clause-wiring c =
    let l = c.args.self.now in
    let x = c.index_mut-end.result.now in
    let at = c.end_place-k.ensures.at in
    let read = c.index_mut-end.ensures.value in
    let e = c.take-packet in
    let w = took x.1 e.new.self (rests l.told l.quiet _ _ _ x at read)
    (e.ensures.side ∙ sym (side_is l.told l.quiet _ _ _ x at read)) e.result
    (is_up l.told l.quiet _ _ _ x at read c.requires.up) e.ensures.step in
    rw (wires_now l.told l.quiet _ _ _ x at read e.new.self _ _ w) refl
