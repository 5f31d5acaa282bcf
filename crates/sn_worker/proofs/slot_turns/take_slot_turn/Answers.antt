-- answers of src/slot_turns.rt, take_slot_turn
use Rattle.std.proofs.Common.{refl, sym, ◌∙◌}
use Rattle.sn_worker.specs.Workers.{life_of, plan_in, slot_life_of}
use Rattle.sn_worker.proofs.SlotTurning.{last_by, slot_full, slot_works}
use Rattle.sn_worker.proofs.slot_turns.take_slot_turn.Goals as goal

pub returns-then-is_full-clause-runs : goal.returns-then-is_full-clause-runs
returns-then-is_full-clause-runs g c =
    let worker = c.end_spent.new.worker in
    let used = g.C.Ctx.used c.end_spent.new.ctx in
    let tray = g.C.Ctx.tray c.end_spent.new.ctx in
    slot_full (plan_in c.args.worker.now) _ c.args.keep _ _ _ _ _ _ (sym c.is_full.ensures ∙ c.if-is_full.true)
    (last_by _ (slot_life_of worker c.args.breathed.now used tray) (life_of worker used tray) _ _ _ _ c.end_spent.result refl
    c.end_spent.ensures.runs)

pub returns-else-is_full-clause-runs : goal.returns-else-is_full-clause-runs
returns-else-is_full-clause-runs g c =
    slot_works (plan_in c.args.worker.now) _ c.args.keep _ _ _ _ _ _ (sym c.is_full.ensures ∙ c.if-is_full.false)
    c.work_on.ensures.runs
