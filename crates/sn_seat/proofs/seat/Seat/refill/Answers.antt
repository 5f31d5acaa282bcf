use Rattle.std.proofs.Common.{◌≡◌, ◌∙◌, Err, Ok, refl, rules, subst}
use Rattle.sn_app.specs.Answers.{OnTray}
use Rattle.sn_app.specs.Reader.{times}
use Rattle.sn_app.specs.Rows.{most_refilled, refill, refill_one}
use Rattle.sn_app.proofs.OnTrays.{leads_done, leads_fail, leads_next, leads_start, leads_stop, leaves_then}
use Rattle.sn_seat.specs.Trays.{captures_of, seat_tray}
use Rattle.sn_seat.proofs.seat.Seat.refill.Goals as goal

pub loop-turn-init : goal.loop-turn-init
loop-turn-init g c = record {
  leads = leads_start (times most_refilled refill_one) (seat_tray (captures_of c.args.shared.now) c.args.self.now);
  used = refl;
  leaves = record { constants = refl; files = refl; ends = refl };
  kept = refl;
}

pub claim-requires : goal.claim-requires
claim-requires g c = record { fits = rw c.loop-turn.invariant.kept c.requires.fits }

pub loop-turn-preserved : goal.loop-turn-preserved
loop-turn-preserved g c =
    let caps = captures_of c.args.shared.now in
    let before = c.loop-turn.invariant in
    let one = c.in_ok-claim.ensures in
    let came = c.if-not-branch.false in
    record {
      leads = leads_next most_refilled c.loop-turn._turn refill_one before.leads c.loop-turn-test.true
          (subst (λ b. OnTray refill_one (seat_tray caps c.loop-turn.self) (seat_tray caps c.claim.new.self) (Ok b)) came
          one.reads);
      used = one.used ∙ before.used;
      leaves = leaves_then before.leaves one.leaves;
      kept = one.kept ∙ before.kept;
    }

pub returns-then-not-branch-clause-reads : goal.returns-then-not-branch-clause-reads
unfolding refill
returns-then-not-branch-clause-reads g c =
    let caps = captures_of c.args.shared.now in
    leads_stop most_refilled c.loop-turn._turn refill_one c.loop-turn.invariant.leads c.loop-turn-test.true
    (subst (λ b. OnTray refill_one (seat_tray caps c.loop-turn.self) (seat_tray caps c.claim.new.self) (Ok b))
    c.if-not-branch.true
    c.in_ok-claim.ensures.reads)

pub returns-in_err-claim-clause-reads : goal.returns-in_err-claim-clause-reads
unfolding refill
returns-in_err-claim-clause-reads g c =
    let e : c.from_residual.result ≡ Err c.in_err-claim.field-0.0 = search rules in
    rw e (leads_fail most_refilled c.loop-turn._turn refill_one c.loop-turn.invariant.leads c.in_err-claim.field-0.0
    c.loop-turn-test.true c.in_err-claim.ensures.reads)

pub returns-clause-reads : goal.returns-clause-reads
unfolding refill
returns-clause-reads g c = leads_done most_refilled c.loop-turn._turn refill_one c.loop-turn.invariant.leads
    c.loop-turn-test.false
