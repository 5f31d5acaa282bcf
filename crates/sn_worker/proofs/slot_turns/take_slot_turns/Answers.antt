-- answers of src/slot_turns.rt, take_slot_turns
use Rattle.std.proofs.Common.{Err, List, ap, rules, ℕ, ◌∙◌, ◌≡◌}
use Rattle.sn_actions.specs.declared.action.Action.{Action}
use Rattle.sn_worker.specs.SlotTurns.{one_slot_turn, slot_turn}
use Rattle.sn_worker.specs.Slots.{SlotLife}
use Rattle.sn_worker.specs.Workers.{kept_of, plan_in, slot_life_of}
use Rattle.sn_worker.proofs.Steps.{stepped_end, stepped_halt, stepped_next, stepped_stop}
use Rattle.sn_worker.proofs.SlotTurning.{slot_ends, slot_goes_on, slot_halts}
use Rattle.sn_worker.proofs.Turning.{of_same}
use Rattle.sn_worker.proofs.slot_turns.take_slot_turns.Goals as goal

pub returns-in_err-take_slot_turn-clause-runs : goal.returns-in_err-take_slot_turn-clause-runs
returns-in_err-take_slot_turn-clause-runs g c =
    let plan : List Action = plan_in c.args.worker.now in
    let floor : ℕ = g.C.Seated.floor (g.C.Ctx.lender c.args.ctx.now) in
    let near : ℕ = g.C.Seated.floor (g.C.Ctx.lender c.loop-turn.ctx) in
    let keep = c.args.keep in
    let life : SlotLife = slot_life_of c.loop-turn.worker c.loop-turn.breathed (g.C.Ctx.used c.loop-turn.ctx)
    (g.C.Ctx.tray c.loop-turn.ctx) in
    let e : c.from_residual.result ≡ Err c.in_err-take_slot_turn.field-0.0 = search rules in
    rw e (stepped_halt c.args.breaths (one_slot_turn plan floor keep) _ _ _ c.loop-turn.turn life _ _ _ _
    c.in_err-take_slot_turn.field-0.0 _ c.loop-turn-test.true c.loop-turn.invariant.stepped
    (slot_halts plan floor keep life _ _ _ (kept_of c.take_slot_turn.new.worker) _ c.in_err-take_slot_turn.field-0.0
    (of_same (λ (n : ℕ). slot_turn plan n keep life) (ap g.C.Seated.floor c.loop-turn.invariant.lent)
    (of_same (λ (xs : List Action). slot_turn xs near keep life) c.loop-turn.invariant.plan
    c.in_err-take_slot_turn.ensures.runs))))

pub returns-then-worker-clause-runs : goal.returns-then-worker-clause-runs
returns-then-worker-clause-runs g c =
    let plan : List Action = plan_in c.args.worker.now in
    let floor : ℕ = g.C.Seated.floor (g.C.Ctx.lender c.args.ctx.now) in
    let near : ℕ = g.C.Seated.floor (g.C.Ctx.lender c.loop-turn.ctx) in
    let keep = c.args.keep in
    let life : SlotLife = slot_life_of c.loop-turn.worker c.loop-turn.breathed (g.C.Ctx.used c.loop-turn.ctx)
    (g.C.Ctx.tray c.loop-turn.ctx) in
    stepped_stop c.args.breaths (one_slot_turn plan floor keep) _ _ _ c.loop-turn.turn life _ _ _ _ _ c.loop-turn-test.true
    c.loop-turn.invariant.stepped
    (slot_ends plan floor keep life _ _ _ _ _ c.if-worker.true
    (of_same (λ (n : ℕ). slot_turn plan n keep life) (ap g.C.Seated.floor c.loop-turn.invariant.lent)
    (of_same (λ (xs : List Action). slot_turn xs near keep life) c.loop-turn.invariant.plan
    c.in_ok-take_slot_turn.ensures.runs)))

pub loop-turn-preserved : goal.loop-turn-preserved
loop-turn-preserved g c =
    let plan : List Action = plan_in c.args.worker.now in
    let floor : ℕ = g.C.Seated.floor (g.C.Ctx.lender c.args.ctx.now) in
    let near : ℕ = g.C.Seated.floor (g.C.Ctx.lender c.loop-turn.ctx) in
    let keep = c.args.keep in
    let life : SlotLife = slot_life_of c.loop-turn.worker c.loop-turn.breathed (g.C.Ctx.used c.loop-turn.ctx)
    (g.C.Ctx.tray c.loop-turn.ctx) in
    record {
      works = c.in_ok-take_slot_turn.ensures.works;
      plan = c.take_slot_turn.ensures.plan ∙ c.loop-turn.invariant.plan;
      lent = c.take_slot_turn.ensures.lent ∙ c.loop-turn.invariant.lent;
      stepped =
          stepped_next c.args.breaths (one_slot_turn plan floor keep) _ _ _ c.loop-turn.turn life _ _ _ _ _
          c.loop-turn-test.true c.loop-turn.invariant.stepped
          (slot_goes_on plan floor keep life _ _ _ _ _ c.if-worker.false
          (of_same (λ (n : ℕ). slot_turn plan n keep life) (ap g.C.Seated.floor c.loop-turn.invariant.lent)
          (of_same (λ (xs : List Action). slot_turn xs near keep life) c.loop-turn.invariant.plan
          c.in_ok-take_slot_turn.ensures.runs)));
    }

pub returns-clause-runs : goal.returns-clause-runs
returns-clause-runs g c =
    let floor : ℕ = g.C.Seated.floor (g.C.Ctx.lender c.args.ctx.now) in
    stepped_end c.args.breaths (one_slot_turn (plan_in c.args.worker.now) floor c.args.keep) _ _ _ c.loop-turn.turn _ _ _
    (let h = c.loop-turn-test.false in search rules) c.loop-turn.invariant.stepped
