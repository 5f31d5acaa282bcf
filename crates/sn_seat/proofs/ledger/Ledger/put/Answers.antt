use Rattle.std.proofs.Common.{refl, sym, ap, ◌∙◌, ◌+◌}
use Rattle.sn_app.proofs.Gaining.{lifted}
use Rattle.sn_core.specs.declared.events.Side.TheVariants.{Tx}
use Rattle.sn_seat.specs.SeatEnds.{end_in}
use Rattle.sn_seat.proofs.EndKinds.{put}
use Rattle.sn_seat.proofs.LedgerEnds.{ends_now, is_up, link_is, quiet_now, rests, side_is, stands, wires_now}
use Rattle.sn_seat.proofs.PacketTelling.{may_move, told_put}
use Rattle.sn_seat.proofs.ledger.Ledger.put.Goals as goal

pub put-at-requires-clause-lane : goal.put-at-requires-clause-lane
put-at-requires-clause-lane c =
    let l = c.args.self.now in
    let x = c.index_mut-end.result.now in
    let at = c.end_place-k.ensures.at in
    let read = c.index_mut-end.ensures.value in
    link_is l.told l.quiet _ _ _ x at read c.requires.link

pub put-at-requires-clause-up : goal.put-at-requires-clause-up
put-at-requires-clause-up c =
    let l = c.args.self.now in
    let x = c.index_mut-end.result.now in
    let at = c.end_place-k.ensures.at in
    let read = c.index_mut-end.ensures.value in
    is_up l.told l.quiet _ _ _ x at read c.requires.up

pub put-at-requires-clause-idle : goal.put-at-requires-clause-idle
put-at-requires-clause-idle c =
    let l = c.args.self.now in
    let x = c.index_mut-end.result.now in
    let at = c.end_place-k.ensures.at in
    let read = c.index_mut-end.ensures.value in
    let r = rests l.told l.quiet _ _ _ x at read in
    r.half

pub put-at-requires-clause-room : goal.put-at-requires-clause-room
put-at-requires-clause-room c =
    let l = c.args.self.now in
    let x = c.index_mut-end.result.now in
    let at = c.end_place-k.ensures.at in
    let read = c.index_mut-end.ensures.value in
    may_move c.args.number Tx l.ends.items (end_in x.1) (stands l.told l.quiet _ _ _ x at read)
    (is_up l.told l.quiet _ _ _ x at read c.requires.up) c.requires.known

pub invariant_of-self-clause-told : goal.invariant_of-self-clause-told
invariant_of-self-clause-told c =
    let l = c.args.self.now in
    let x = c.index_mut-end.result.now in
    let at = c.end_place-k.ensures.at in
    let read = c.index_mut-end.ensures.value in
    let e = c.put-at in
    let p = c.lift-packet in
    let w = put x.1 e.new.self (rests l.told l.quiet _ _ _ x at read)
    (e.ensures.side ∙ sym (side_is l.told l.quiet _ _ _ x at read)) p.result
    (is_up l.told l.quiet _ _ _ x at read c.requires.up) e.ensures.step in
    rw c.add.ensures.added
    (told_put l.told l.quiet _ _ _ x at read e.new.self _ p.new.self p.result e.result c.number-name.result _
    c.args.payload e.ensures.place
    c.number-name.ensures.value (ap (λ n. n + 1) c.turn-turn.ensures.value)
    (c.requires.bytes ∙ ap (λ q. q.bytes) (lifted l.hold c.args.place p.result c.requires.place p.ensures.packet))
    p.ensures.weight w)

pub invariant_of-self-clause-quiet : goal.invariant_of-self-clause-quiet
invariant_of-self-clause-quiet c =
    let l = c.args.self.now in
    let x = c.index_mut-end.result.now in
    let at = c.end_place-k.ensures.at in
    let read = c.index_mut-end.ensures.value in
    let e = c.put-at in
    let p = c.lift-packet in
    let w = put x.1 e.new.self (rests l.told l.quiet _ _ _ x at read)
    (e.ensures.side ∙ sym (side_is l.told l.quiet _ _ _ x at read)) p.result
    (is_up l.told l.quiet _ _ _ x at read c.requires.up) e.ensures.step in
    quiet_now l.told l.quiet _ _ _ x at read e.new.self _ _ w

pub returns-clause-ends : goal.returns-clause-ends
returns-clause-ends c =
    let l = c.args.self.now in
    let x = c.index_mut-end.result.now in
    let at = c.end_place-k.ensures.at in
    let read = c.index_mut-end.ensures.value in
    let e = c.put-at in
    let p = c.lift-packet in
    let w = put x.1 e.new.self (rests l.told l.quiet _ _ _ x at read)
    (e.ensures.side ∙ sym (side_is l.told l.quiet _ _ _ x at read)) p.result
    (is_up l.told l.quiet _ _ _ x at read c.requires.up) e.ensures.step in
    rw (stands l.told l.quiet _ _ _ x at read) (ends_now l.told l.quiet _ _ _ x at read e.new.self _ _ w)

pub returns-clause-wiring : goal.returns-clause-wiring
returns-clause-wiring c =
    let l = c.args.self.now in
    let x = c.index_mut-end.result.now in
    let at = c.end_place-k.ensures.at in
    let read = c.index_mut-end.ensures.value in
    let e = c.put-at in
    let p = c.lift-packet in
    let w = put x.1 e.new.self (rests l.told l.quiet _ _ _ x at read)
    (e.ensures.side ∙ sym (side_is l.told l.quiet _ _ _ x at read)) p.result
    (is_up l.told l.quiet _ _ _ x at read c.requires.up) e.ensures.step in
    rw (wires_now l.told l.quiet _ _ _ x at read e.new.self _ _ w) refl
