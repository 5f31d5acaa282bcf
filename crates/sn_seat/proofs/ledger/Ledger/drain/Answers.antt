use Rattle.std.proofs.Common.{refl, ap, ◌∙◌, IsSome}
use Rattle.sn_interlink.specs.Ends.{reach_of}
use Rattle.sn_interlink.specs.declared.entry.LaneEntry.TheVariants as lane
use Rattle.sn_journal.specs.declared.entry.Entry.TheVariants.{Reset}
use Rattle.sn_seat.specs.SeatEnds.{end_in}
use Rattle.sn_seat.proofs.EndKinds.{drained}
use Rattle.sn_seat.proofs.LedgerEnds.{ends_now, reach_less, holds_here, holds_now, is_closing, link_is, quiet_now, rests}
use Rattle.sn_seat.proofs.LedgerEnds.{told_step, wires_now}
use Rattle.sn_seat.proofs.PacketTelling.{emptied, one_less, told_drain}
use Rattle.sn_seat.proofs.ledger.Ledger.drain.Goals as goal

pub drain-requires-clause-lane : goal.drain-requires-clause-lane
drain-requires-clause-lane c =
    let l = c.args.self.now in
    let x = c.index_mut-end.result.now in
    let at = c.end_place-k.ensures.at in
    let read = c.index_mut-end.ensures.value in
    link_is l.told l.quiet _ _ _ x at read c.requires.link

pub drain-requires-clause-closing : goal.drain-requires-clause-closing
drain-requires-clause-closing c =
    let l = c.args.self.now in
    let x = c.index_mut-end.result.now in
    let at = c.end_place-k.ensures.at in
    let read = c.index_mut-end.ensures.value in
    is_closing l.told l.quiet _ _ _ x at read c.requires.closing

pub drain-requires-clause-loaded : goal.drain-requires-clause-loaded
drain-requires-clause-loaded c =
    let l = c.args.self.now in
    let x = c.index_mut-end.result.now in
    let at = c.end_place-k.ensures.at in
    let read = c.index_mut-end.ensures.value in
    holds_here l.told l.quiet _ _ _ x at read (λ z. IsSome z.reach) c.requires.loaded

pub drain-requires-clause-idle : goal.drain-requires-clause-idle
drain-requires-clause-idle c =
    let l = c.args.self.now in
    let x = c.index_mut-end.result.now in
    let at = c.end_place-k.ensures.at in
    let read = c.index_mut-end.ensures.value in
    let r = rests l.told l.quiet _ _ _ x at read in
    r.half

pub reset-requires-clause-lane : goal.reset-requires-clause-lane
reset-requires-clause-lane c =
    let l = c.args.self.now in
    let x = c.index_mut-end.result.now in
    let at = c.end_place-k.ensures.at in
    let read = c.index_mut-end.ensures.value in
    ap (λ z. z.lane) c.in-None.ensures.step.1 ∙ link_is l.told l.quiet _ _ _ x at read c.requires.link

pub reset-requires-clause-closing : goal.reset-requires-clause-closing
reset-requires-clause-closing c =
    let l = c.args.self.now in
    let x = c.index_mut-end.result.now in
    let at = c.end_place-k.ensures.at in
    let read = c.index_mut-end.ensures.value in
    ap (λ z. z.state) c.in-None.ensures.step.1 ∙ is_closing l.told l.quiet _ _ _ x at read c.requires.closing

pub reset-requires-clause-idle : goal.reset-requires-clause-idle
reset-requires-clause-idle c =
    let l = c.args.self.now in
    let x = c.index_mut-end.result.now in
    let at = c.end_place-k.ensures.at in
    let read = c.index_mut-end.ensures.value in
    let r = rests l.told l.quiet _ _ _ x at read in
    ap (λ z. z.half) c.in-None.ensures.step.1 ∙ r.half

pub invariant_of-self-clause-told : goal.invariant_of-self-clause-told
invariant_of-self-clause-told c =
    let l = c.args.self.now in
    let x = c.index_mut-end.result.now in
    let at = c.end_place-k.ensures.at in
    let read = c.index_mut-end.ensures.value in
    let d = c.in-None.ensures in
    let e = c.reset in
    let w = emptied x.1 c.drain.new.self e.new.self (rests l.told l.quiet _ _ _ x at read) d.side e.ensures.side
    (is_closing l.told l.quiet _ _ _ x at read c.requires.closing) d.step.1 e.ensures.step in
    rw c.add.ensures.added
    (told_step l.told l.quiet _ _ _ x at read e.new.self _ _ w l.hold (Reset c.args.number) lane.Reset refl refl refl
    refl (λ f. refl))

pub invariant_of-self-clause-quiet : goal.invariant_of-self-clause-quiet
invariant_of-self-clause-quiet c =
    let l = c.args.self.now in
    let x = c.index_mut-end.result.now in
    let at = c.end_place-k.ensures.at in
    let read = c.index_mut-end.ensures.value in
    let d = c.in-None.ensures in
    let e = c.reset in
    let w = emptied x.1 c.drain.new.self e.new.self (rests l.told l.quiet _ _ _ x at read) d.side e.ensures.side
    (is_closing l.told l.quiet _ _ _ x at read c.requires.closing) d.step.1 e.ensures.step in
    quiet_now l.told l.quiet _ _ _ x at read e.new.self _ _ w

pub invariant_of-self-in-Some-clause-told : goal.invariant_of-self-in-Some-clause-told
invariant_of-self-in-Some-clause-told c =
    let l = c.args.self.now in
    let x = c.index_mut-end.result.now in
    let at = c.end_place-k.ensures.at in
    let read = c.index_mut-end.ensures.value in
    let e = c.in-Some in
    let w = drained x.1 c.drain.new.self (rests l.told l.quiet _ _ _ x at read) e.ensures.side e.packet
    (is_closing l.told l.quiet _ _ _ x at read c.requires.closing) e.ensures.step.1 in
    rw c.add-in-Some.ensures.added
    (told_drain l.told l.quiet _ _ _ x at read c.drain.new.self _ c.lay.new.self e.packet c.place-at.result
    c.number.result c.turn.result c.place-at.ensures
    c.number.ensures.value c.turn.ensures.value c.lay.ensures.weight w)

pub invariant_of-self-in-Some-clause-quiet : goal.invariant_of-self-in-Some-clause-quiet
invariant_of-self-in-Some-clause-quiet c =
    let l = c.args.self.now in
    let x = c.index_mut-end.result.now in
    let at = c.end_place-k.ensures.at in
    let read = c.index_mut-end.ensures.value in
    let e = c.in-Some in
    let w = drained x.1 c.drain.new.self (rests l.told l.quiet _ _ _ x at read) e.ensures.side e.packet
    (is_closing l.told l.quiet _ _ _ x at read c.requires.closing) e.ensures.step.1 in
    quiet_now l.told l.quiet _ _ _ x at read c.drain.new.self _ _ w

pub returns-in-None-clause-ends : goal.returns-in-None-clause-ends
returns-in-None-clause-ends c =
    let l = c.args.self.now in
    let x = c.index_mut-end.result.now in
    let at = c.end_place-k.ensures.at in
    let read = c.index_mut-end.ensures.value in
    let d = c.in-None.ensures in
    let e = c.reset in
    let w = emptied x.1 c.drain.new.self e.new.self (rests l.told l.quiet _ _ _ x at read) d.side e.ensures.side
    (is_closing l.told l.quiet _ _ _ x at read c.requires.closing) d.step.1 e.ensures.step in
    ends_now l.told l.quiet _ _ _ x at read e.new.self _ _ w

pub returns-in-None-clause-wiring : goal.returns-in-None-clause-wiring
returns-in-None-clause-wiring c =
    let l = c.args.self.now in
    let x = c.index_mut-end.result.now in
    let at = c.end_place-k.ensures.at in
    let read = c.index_mut-end.ensures.value in
    let d = c.in-None.ensures in
    let e = c.reset in
    let w = emptied x.1 c.drain.new.self e.new.self (rests l.told l.quiet _ _ _ x at read) d.side e.ensures.side
    (is_closing l.told l.quiet _ _ _ x at read c.requires.closing) d.step.1 e.ensures.step in
    rw (wires_now l.told l.quiet _ _ _ x at read e.new.self _ _ w) refl

pub returns-in-Some-clause-ends : goal.returns-in-Some-clause-ends
returns-in-Some-clause-ends c =
    let l = c.args.self.now in
    let x = c.index_mut-end.result.now in
    let at = c.end_place-k.ensures.at in
    let read = c.index_mut-end.ensures.value in
    let e = c.in-Some in
    let w = drained x.1 c.drain.new.self (rests l.told l.quiet _ _ _ x at read) e.ensures.side e.packet
    (is_closing l.told l.quiet _ _ _ x at read c.requires.closing) e.ensures.step.1 in
    ends_now l.told l.quiet _ _ _ x at read c.drain.new.self _ _ w

pub returns-in-Some-clause-loaded : goal.returns-in-Some-clause-loaded
returns-in-Some-clause-loaded c =
    let l = c.args.self.now in
    let x = c.index_mut-end.result.now in
    let at = c.end_place-k.ensures.at in
    let read = c.index_mut-end.ensures.value in
    let e = c.in-Some in
    let w = drained x.1 c.drain.new.self (rests l.told l.quiet _ _ _ x at read) e.ensures.side e.packet
    (is_closing l.told l.quiet _ _ _ x at read c.requires.closing) e.ensures.step.1 in
    λ some. holds_now l.told l.quiet _ _ _ x at read c.drain.new.self _ _ w (λ z. IsSome z.reach)
    (rw (ap (λ z. z.reach) e.ensures.step.1) refl)

pub returns-in-Some-clause-wiring : goal.returns-in-Some-clause-wiring
returns-in-Some-clause-wiring c =
    let l = c.args.self.now in
    let x = c.index_mut-end.result.now in
    let at = c.end_place-k.ensures.at in
    let read = c.index_mut-end.ensures.value in
    let e = c.in-Some in
    let w = drained x.1 c.drain.new.self (rests l.told l.quiet _ _ _ x at read) e.ensures.side e.packet
    (is_closing l.told l.quiet _ _ _ x at read c.requires.closing) e.ensures.step.1 in
    rw (wires_now l.told l.quiet _ _ _ x at read c.drain.new.self _ _ w) refl

pub returns-in-Some-clause-less : goal.returns-in-Some-clause-less
returns-in-Some-clause-less c =
    let l = c.args.self.now in
    let x = c.index_mut-end.result.now in
    let at = c.end_place-k.ensures.at in
    let read = c.index_mut-end.ensures.value in
    let e = c.in-Some in
    let w = drained x.1 c.drain.new.self (rests l.told l.quiet _ _ _ x at read) e.ensures.side e.packet
    (is_closing l.told l.quiet _ _ _ x at read c.requires.closing) e.ensures.step.1 in
    λ some. reach_less l.told l.quiet _ _ _ x at read c.drain.new.self _ _ w
    (one_less (end_in x.1) (end_in c.drain.new.self) (ap (λ z. reach_of z) e.ensures.step.1) e.ensures.step.0)
