use Rattle.std.proofs.Common.{◌≡◌, ◌∙◌, Err, Ok, refl, rules, subst}
use Rattle.sn_app.specs.Answers.{OnTray}
use Rattle.sn_app.specs.Bench.{tray_of}
use Rattle.sn_app.specs.Claims.{ClaimsOne}
use Rattle.sn_app.specs.Reader.{times}
use Rattle.sn_app.specs.Rows.{most_refilled, refill, refill_one}
use Rattle.sn_app.proofs.Claiming.{claiming_next}
use Rattle.sn_app.proofs.OnTrays.{leads_done, leads_fail, leads_next, leads_start, leads_stop, leaves_then}
use Rattle.sn_app.proofs.bench.Bench.refill.Goals as goal

pub loop-turn-init : goal.loop-turn-init
loop-turn-init c = record {
  leads = leads_start (times most_refilled refill_one) (tray_of c.args.self.now);
  claims = record { past = refl; script = refl };
  used = refl;
  leaves = record { constants = refl; files = refl; ends = refl };
}

pub loop-turn-preserved : goal.loop-turn-preserved
loop-turn-preserved c =
    let before = c.loop-turn.invariant in
    let one = c.in_ok-claim.ensures in
    let came = c.if-not-branch.false in
    record {
      leads = leads_next most_refilled c.loop-turn._turn refill_one before.leads c.loop-turn-test.true
          (subst (λ b. OnTray refill_one (tray_of c.loop-turn.self) (tray_of c.claim.new.self) (Ok b)) came one.reads);
      claims = claiming_next most_refilled c.loop-turn._turn before.claims c.loop-turn-test.true
          (subst (ClaimsOne c.loop-turn.self c.claim.new.self) came one.claims);
      used = one.used ∙ before.used;
      leaves = leaves_then before.leaves one.leaves;
    }

pub returns-then-not-branch-clause-reads : goal.returns-then-not-branch-clause-reads
unfolding refill
returns-then-not-branch-clause-reads c =
    leads_stop most_refilled c.loop-turn._turn refill_one c.loop-turn.invariant.leads c.loop-turn-test.true
    (subst (λ b. OnTray refill_one (tray_of c.loop-turn.self) (tray_of c.claim.new.self) (Ok b)) c.if-not-branch.true
    c.in_ok-claim.ensures.reads)

pub returns-in_err-claim-clause-reads : goal.returns-in_err-claim-clause-reads
unfolding refill
returns-in_err-claim-clause-reads c =
    let e : c.from_residual.result ≡ Err c.in_err-claim.field-0.0 = search rules in
    rw e (leads_fail most_refilled c.loop-turn._turn refill_one c.loop-turn.invariant.leads c.in_err-claim.field-0.0
    c.loop-turn-test.true c.in_err-claim.ensures.reads)

pub returns-clause-reads : goal.returns-clause-reads
unfolding refill
returns-clause-reads c = leads_done most_refilled c.loop-turn._turn refill_one c.loop-turn.invariant.leads c.loop-turn-test.false
