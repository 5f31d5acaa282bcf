-- answers of src/slot.rt, Slot::round
use Rattle.std.proofs.Common.{◌≡◌, ℕ, false, is_err, List, ap, subst, sym, ◌∙◌}
use Rattle.sn_seat.proofs.Lending.{same_bond, same_name}
use Rattle.sn_seat.specs.Lenders.{lent_as}
use Rattle.sn_seat.specs.Trays.{bond_of, captures_of, seat_tray, seat_used}
use Rattle.sn_worker.specs.Floors.{lent_floor}
use Rattle.sn_worker.specs.Workers.{CanWork}
use Rattle.sn_worker.specs.declared.slot.Slot.{Slot}
use Rattle.sn_worker.proofs.SlotRounds.{round_was, same_captures, still_fits, went_on}
use Rattle.sn_worker.proofs.slot.Slot.round.Goals as goal

pub shape_of-self : goal.shape_of-self
shape_of-self g c = sym (same_name _ _ _ _ c.take_round-ended.ensures.lent ∙ c.live-live.ensures.lent)

pub returns-then-is_err-clause-bond : goal.returns-then-is_err-clause-bond
returns-then-is_err-clause-bond g c =
    same_bond _ _ _ _ c.take_round-ended.ensures.lent ∙ ap bond_of c.live-live.ensures.seat

pub returns-then-is_err-clause-fits : goal.returns-then-is_err-clause-fits
returns-then-is_err-clause-fits g c =
    still_fits c.args.shared.now c.args.self.now.seat c.take_round-ended.new.ctx.seat.now
    (same_bond _ _ _ _ c.take_round-ended.ensures.lent ∙ ap bond_of c.live-live.ensures.seat) c.requires.fits

pub returns-then-self-clause-can : goal.returns-then-self-clause-can
returns-then-self-clause-can g c =
    let seat = c.take_round-ended.new.ctx.seat.now in
    let after : Slot = record c.args.self.now {
      seat = seat;
      worker = c.take_round-ended.new.worker;
      breathed = c.take_round-ended.new.breathed;
    } in
    let lent = c.live-live.result in
    let went : is_err c.take_round-ended.result ≡ false = sym c.is_err.ensures.value ∙ c.if-is_err.false in
    let same : captures_of c.take_round-ended.new.ctx.shared.now ≡ captures_of c.args.shared.now =
    same_captures c.args.number c.args.self.now after (lent_floor (lent_as lent.seat.ghost_name (bond_of lent.seat.now)))
    lent.seat.now (captures_of lent.shared.now) (captures_of c.take_round-ended.new.ctx.shared.now) c.take_round-ended.result
    c.take_round-ended.ensures.runs
    ∙ ap captures_of c.live-live.ensures.shared in
    record {
      works =
          subst (λ (captures : List (List ℕ)). CanWork c.take_round-ended.new.worker (seat_used seat) (seat_tray captures seat))
          same (went_on c.take_round-ended.result went c.take_round-ended.ensures.works);
      runs = c.requires.can.runs;
      open_yet = c.requires.can.open_yet;
    }

pub returns-then-self-clause-reads : goal.returns-then-self-clause-reads
returns-then-self-clause-reads g c =
    let seat = c.take_round-ended.new.ctx.seat.now in
    let after : Slot = record c.args.self.now {
      seat = seat;
      worker = c.take_round-ended.new.worker;
      breathed = c.take_round-ended.new.breathed;
    } in
    let lent = c.live-live.result in
    let went : is_err c.take_round-ended.result ≡ false = sym c.is_err.ensures.value ∙ c.if-is_err.false in
    round_was c.args.number c.args.self.now after lent.seat.ghost_name lent.seat.now (captures_of c.args.shared.now)
    (captures_of lent.shared.now) (captures_of c.take_round-ended.new.ctx.shared.now) c.take_round-ended.result
    c.live-live.ensures.seat (ap captures_of c.live-live.ensures.shared) went c.take_round-ended.ensures.runs

pub returns-then-self-clause-bond : goal.returns-then-self-clause-bond
returns-then-self-clause-bond g c =
    same_bond _ _ _ _ c.take_round-ended.ensures.lent ∙ ap bond_of c.live-live.ensures.seat

pub returns-then-self-clause-fits : goal.returns-then-self-clause-fits
returns-then-self-clause-fits g c =
    still_fits c.args.shared.now c.args.self.now.seat c.take_round-ended.new.ctx.seat.now
    (same_bond _ _ _ _ c.take_round-ended.ensures.lent ∙ ap bond_of c.live-live.ensures.seat) c.requires.fits

pub returns-clause-can : goal.returns-clause-can
returns-clause-can g c =
    let seat = c.take_round-ended.new.ctx.seat.now in
    let after : Slot = record c.args.self.now {
      seat = seat;
      worker = c.take_round-ended.new.worker;
      breathed = c.take_round-ended.new.breathed;
    } in
    let lent = c.live-live.result in
    let went : is_err c.take_round-ended.result ≡ false = sym c.is_err.ensures.value ∙ c.if-is_err.false in
    let same : captures_of c.take_round-ended.new.ctx.shared.now ≡ captures_of c.args.shared.now =
    same_captures c.args.number c.args.self.now after (lent_floor (lent_as lent.seat.ghost_name (bond_of lent.seat.now)))
    lent.seat.now (captures_of lent.shared.now) (captures_of c.take_round-ended.new.ctx.shared.now) c.take_round-ended.result
    c.take_round-ended.ensures.runs
    ∙ ap captures_of c.live-live.ensures.shared in
    record {
      works =
          subst (λ (captures : List (List ℕ)). CanWork c.take_round-ended.new.worker (seat_used seat) (seat_tray captures seat))
          same (went_on c.take_round-ended.result went c.take_round-ended.ensures.works);
      runs = c.requires.can.runs;
      open_yet = c.requires.can.open_yet;
    }

pub returns-clause-reads : goal.returns-clause-reads
returns-clause-reads g c =
    let seat = c.take_round-ended.new.ctx.seat.now in
    let after : Slot = record c.args.self.now {
      seat = seat;
      worker = c.take_round-ended.new.worker;
      breathed = c.take_round-ended.new.breathed;
    } in
    let lent = c.live-live.result in
    let went : is_err c.take_round-ended.result ≡ false = sym c.is_err.ensures.value ∙ c.if-is_err.false in
    round_was c.args.number c.args.self.now after lent.seat.ghost_name lent.seat.now (captures_of c.args.shared.now)
    (captures_of lent.shared.now) (captures_of c.take_round-ended.new.ctx.shared.now) c.take_round-ended.result
    c.live-live.ensures.seat (ap captures_of c.live-live.ensures.shared) went c.take_round-ended.ensures.runs

pub returns-clause-bond : goal.returns-clause-bond
returns-clause-bond g c =
    same_bond _ _ _ _ c.take_round-ended.ensures.lent ∙ ap bond_of c.live-live.ensures.seat

pub returns-clause-fits : goal.returns-clause-fits
returns-clause-fits g c =
    still_fits c.args.shared.now c.args.self.now.seat c.take_round-ended.new.ctx.seat.now
    (same_bond _ _ _ _ c.take_round-ended.ensures.lent ∙ ap bond_of c.live-live.ensures.seat) c.requires.fits
