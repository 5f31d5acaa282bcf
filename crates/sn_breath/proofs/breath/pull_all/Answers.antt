-- answers of src/breath.rt, pull_all
use Rattle.std.proofs.Common.{[], Err, ap, rules, subst, ◌<◌, ◌∙◌, ◌≡◌, ◌≤◌, length}
use Rattle.sn_network.specs.Networks.{plain_in}
use Rattle.sn_network.specs.Orders.{pull_order}
use Rattle.sn_breath.proofs.Folds.{onward_done, onward_fail, onward_next}
use Rattle.sn_breath.proofs.breath.pull_all.Goals as goal

pub returns-in_err-pull-clause-runs : goal.returns-in_err-pull-clause-runs
returns-in_err-pull-clause-runs g c =
    let within : c.loop-i.i < length (pull_order (plain_in c.args.network.now)) =
    subst (λ n. c.loop-i.i < n) c.pulls-i-end.ensures c.loop-i-test.true in
    let e : c.from_residual.result ≡ Err c.in_err-pull.field-0.0 = search rules in
    rw e (onward_fail (pull_order (plain_in c.args.network.now)) _ _ _ _ (pull_order (plain_in c.loop-i.network))
    (ap pull_order c.loop-i.invariant.plain) c.loop-i.i [] _ _ _ _ _ c.in_err-pull.field-0.0 _ within c.loop-i.invariant.onward
    c.in_err-pull.ensures.runs)

pub loop-i-preserved : goal.loop-i-preserved
loop-i-preserved g c =
    let within : c.loop-i.i < length (pull_order (plain_in c.args.network.now)) =
    subst (λ n. c.loop-i.i < n) c.pulls-i-end.ensures c.loop-i-test.true in
    record {
      ready = c.in_ok-pull.ensures.ready;
      plain = c.pull.ensures.plain ∙ c.loop-i.invariant.plain;
      lent = c.pull.ensures.lent ∙ c.loop-i.invariant.lent;
      onward =
          onward_next (pull_order (plain_in c.args.network.now)) _ _ _ _ (pull_order (plain_in c.loop-i.network))
          (ap pull_order c.loop-i.invariant.plain) c.loop-i.i [] _ _ _ _ _ _ within c.loop-i.invariant.onward
          c.in_ok-pull.ensures.runs;
    }

pub returns-clause-runs : goal.returns-clause-runs
returns-clause-runs g c =
    onward_done (pull_order (plain_in c.args.network.now)) _ _ _ _ c.loop-i.i _ _ _
    (subst (λ n. n ≤ c.loop-i.i) c.pulls-i-end.ensures c.loop-i-test.false) c.loop-i.invariant.onward
