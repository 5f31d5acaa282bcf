-- answers of src/slot_turns.rt, take_round
use Rattle.std.proofs.Common.{Err, ap, rules, ℕ, ◌≡◌}
use Rattle.sn_app.specs.Reader.{stepping}
use Rattle.sn_journal.specs.declared.entry.Entry.TheVariants.{Round}
use Rattle.sn_worker.specs.Lives.{Life}
use Rattle.sn_worker.specs.Own.{a_round}
use Rattle.sn_worker.specs.SlotTurns.{one_slot_turn}
use Rattle.sn_worker.specs.Slots.{SlotLife}
use Rattle.sn_worker.specs.Workers.{plan_in, slot_life_of}
use Rattle.sn_worker.proofs.Noting.{round_read, runs_noted, runs_refused}
use Rattle.sn_worker.proofs.SlotTurning.{runs_slot_round}
use Rattle.sn_worker.proofs.Turning.{of_same}
use Rattle.sn_worker.proofs.Works.{noted_life, noted_works}
use Rattle.sn_worker.proofs.slot_turns.take_round.Goals as goal

pub returns-in_err-note-clause-runs : goal.returns-in_err-note-clause-runs
returns-in_err-note-clause-runs g c =
    let e : c.from_residual.result ≡ Err c.in_err-note.field-0.0 = search rules in
    rw e (runs_refused _ _ _ _ _ _ _ _ c.in_err-note.field-0.0 c.in_err-note.ensures.memory c.in_err-note.ensures.refused
    c.in_err-note.ensures.used)

pub take_slot_turns-requires : goal.take_slot_turns-requires
take_slot_turns-requires g c = record {
  works =
      noted_works c.args.worker.now _ _ _ _ (Round c.args.number) c.in_ok-note.ensures.noted c.in_ok-note.ensures.used
      c.requires.works;
}

pub returns-clause-runs : goal.returns-clause-runs
returns-clause-runs g c =
    let plan = plan_in c.args.worker.now in
    let floor : ℕ = g.C.Seated.floor (g.C.Ctx.lender c.args.ctx.now) in
    let keep = c.args.keep in
    let breathed : ℕ = c.args.breathed.now in
    let noted : SlotLife = slot_life_of c.args.worker.now breathed (g.C.Ctx.used c.note.new.self)
    (g.C.Ctx.tray c.note.new.self) in
    runs_slot_round plan c.args.breaths floor keep c.args.number _ _ _ _ _ _ _
    (runs_noted (a_round c.args.number) (Round c.args.number) _ _ _ _ _ _ (round_read c.args.number) c.in_ok-note.ensures.may
    c.in_ok-note.ensures.noted c.in_ok-note.ensures.used)
    (of_same (λ (s : SlotLife). stepping c.args.breaths (one_slot_turn plan floor keep) s)
    (ap (λ (life : Life). record { life = life; breathed = breathed })
    (noted_life c.args.worker.now (g.C.Ctx.used c.args.ctx.now) (g.C.Ctx.used c.note.new.self) (g.C.Ctx.tray c.args.ctx.now)
    (g.C.Ctx.tray c.note.new.self) (Round c.args.number) c.in_ok-note.ensures.noted c.in_ok-note.ensures.used))
    (of_same (λ (n : ℕ). stepping c.args.breaths (one_slot_turn plan n keep) noted) (ap g.C.Seated.floor c.note.ensures.lent)
    c.take_slot_turns.ensures.runs))
