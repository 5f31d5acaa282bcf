-- answers of src/giving.rt, give_over
use Rattle.std.proofs.Common.{Err, false, refl, rules, subst, true, ◌<◌, ◌∙◌, ◌≡◌, ◌≤◌}
use Rattle.sn_app.proofs.OnTrays.{leads_done, leads_fail, leads_next, leads_stop}
use Rattle.sn_worker.specs.Giving.{gives_one}
use Rattle.sn_worker.proofs.GivingBack.{gave_as, leads_first, over_done, over_halts}
use Rattle.sn_worker.proofs.giving.give_over.Goals as goal

pub loop-turn-init : goal.loop-turn-init
loop-turn-init g c = record { leads = leads_first _ c.args.keep _; used = λ q. refl; lent = refl }

pub returns-in_err-gave-clause-reads : goal.returns-in_err-gave-clause-reads
returns-in_err-gave-clause-reads g c =
    let e : c.from_residual.result ≡ Err c.in_err-gave.field-0.0 = search rules in
    rw e (over_halts c.args.keep _ _ _ refl c.in_err-gave.field-0.0
    (leads_fail _ c.loop-turn.turn (gives_one c.args.keep) c.loop-turn.invariant.leads c.in_err-gave.field-0.0
    (subst (λ n. c.loop-turn.turn < n) c.frees-turn-end.ensures c.loop-turn-test.true) c.in_err-gave.ensures.reads))

pub returns-then-not-gave-clause-reads : goal.returns-then-not-gave-clause-reads
returns-then-not-gave-clause-reads g c =
    over_done c.args.keep _ _ _ refl false
    (leads_stop _ c.loop-turn.turn (gives_one c.args.keep) c.loop-turn.invariant.leads
    (subst (λ n. c.loop-turn.turn < n) c.frees-turn-end.ensures c.loop-turn-test.true)
    (gave_as c.args.keep _ _ _ (let h = c.if-not-gave.true in search rules) c.in_ok-gave.ensures.reads))

pub loop-turn-preserved : goal.loop-turn-preserved
loop-turn-preserved g c = record {
  leads =
      leads_next _ c.loop-turn.turn (gives_one c.args.keep) c.loop-turn.invariant.leads
      (subst (λ n. c.loop-turn.turn < n) c.frees-turn-end.ensures c.loop-turn-test.true)
      (gave_as c.args.keep _ _ _ (let h = c.if-not-gave.false in search rules) c.in_ok-gave.ensures.reads);
  used = λ q. c.in_ok-gave.ensures.used q ∙ c.loop-turn.invariant.used q;
  lent = c.give_one.ensures.lent ∙ c.loop-turn.invariant.lent;
}

pub returns-clause-reads : goal.returns-clause-reads
returns-clause-reads g c =
    over_done c.args.keep _ _ _ refl true
    (leads_done _ c.loop-turn.turn (gives_one c.args.keep) c.loop-turn.invariant.leads
    (subst (λ n. n ≤ c.loop-turn.turn) c.frees-turn-end.ensures (let h = c.loop-turn-test.false in search rules)))
