use Rattle.std.proofs.Common.{refl, ap, ◌≡◌, Some}
use Rattle.sn_interlink.specs.Course.{is_down}
use Rattle.sn_seat.proofs.EndKinds.{looked}
use Rattle.sn_seat.proofs.LedgerEnds.{ends_same, found_out, holds_now, is_out, link_is, quiet_now, rests, side_is, told_look}
use Rattle.sn_seat.proofs.LedgerEnds.{wires_now}
use Rattle.sn_seat.proofs.ledger.Ledger.look_state.Goals as goal

pub look_state-word-requires : goal.look_state-word-requires
look_state-word-requires c =
    let l = c.args.self.now in
    record { lane = link_is l.told l.quiet _ _ _ _ c.end_place-place.ensures.at c.index_mut-end.ensures.value c.requires.link }

pub invariant_of-self-clause-told : goal.invariant_of-self-clause-told
invariant_of-self-clause-told c =
    let l = c.args.self.now in
    let x = c.index_mut-end.result.now in
    let at = c.end_place-place.ensures.at in
    let read = c.index_mut-end.ensures.value in
    let e = c.look_state-word in
    let w = looked x.1 e.new.self (rests l.told l.quiet _ _ _ x at read) e.ensures.side e.result e.ensures.step in
    rw c.note_look.ensures.entries (told_look l.told l.quiet _ _ _ x at read e.new.self _ e.result (is_down e.result) w)

pub invariant_of-self-clause-quiet : goal.invariant_of-self-clause-quiet
invariant_of-self-clause-quiet c =
    let l = c.args.self.now in
    let x = c.index_mut-end.result.now in
    let at = c.end_place-place.ensures.at in
    let read = c.index_mut-end.ensures.value in
    let e = c.look_state-word in
    let w = looked x.1 e.new.self (rests l.told l.quiet _ _ _ x at read) e.ensures.side e.result e.ensures.step in
    quiet_now l.told l.quiet _ _ _ x at read e.new.self _ _ w

pub returns-clause-word : goal.returns-clause-word
returns-clause-word c =
    let l = c.args.self.now in
    let x = c.index_mut-end.result.now in
    let at = c.end_place-place.ensures.at in
    let read = c.index_mut-end.ensures.value in
    found_out c.args.side _ (rests l.told l.quiet _ _ _ x at read) (side_is l.told l.quiet _ _ _ x at read)
    (is_out l.told l.quiet _ _ _ x at read c.requires.out) c.look_state-word.ensures.word

pub returns-clause-saw : goal.returns-clause-saw
returns-clause-saw c =
    let l = c.args.self.now in
    let x = c.index_mut-end.result.now in
    let at = c.end_place-place.ensures.at in
    let read = c.index_mut-end.ensures.value in
    let e = c.look_state-word in
    let w = looked x.1 e.new.self (rests l.told l.quiet _ _ _ x at read) e.ensures.side e.result e.ensures.step in
    holds_now l.told l.quiet _ _ _ x at read e.new.self _ _ w (λ z. z.seen ≡ Some e.result) (ap (λ z. z.seen) e.ensures.step)

pub returns-clause-ends : goal.returns-clause-ends
returns-clause-ends c =
    let l = c.args.self.now in
    let x = c.index_mut-end.result.now in
    let at = c.end_place-place.ensures.at in
    let read = c.index_mut-end.ensures.value in
    let e = c.look_state-word in
    let w = looked x.1 e.new.self (rests l.told l.quiet _ _ _ x at read) e.ensures.side e.result e.ensures.step in
    ends_same l.told l.quiet _ _ _ x at read e.new.self _ _ w refl

pub returns-clause-wiring : goal.returns-clause-wiring
returns-clause-wiring c =
    let l = c.args.self.now in
    let x = c.index_mut-end.result.now in
    let at = c.end_place-place.ensures.at in
    let read = c.index_mut-end.ensures.value in
    let e = c.look_state-word in
    let w = looked x.1 e.new.self (rests l.told l.quiet _ _ _ x at read) e.ensures.side e.result e.ensures.step in
    rw (wires_now l.told l.quiet _ _ _ x at read e.new.self _ _ w) refl
