use Rattle.std.proofs.Common.{rules, ◌≡◌, ◌∙◌, Err, ap}
use Rattle.sn_reclaim.specs.Attempts.{attempt}
use Rattle.sn_reclaim.proofs.Attempting.{attempt_reads}
use Rattle.sn_reclaim.proofs.Givings.{lost_files}
use Rattle.sn_reclaim.proofs.reclaiming.reclaim.Goals as goal

pub returns-in_err-settle_all-clause-reads : goal.returns-in_err-settle_all-clause-reads
returns-in_err-settle_all-clause-reads g c =
    let is : c.from_residual.result ≡ Err c.in_err-settle_all.field-0.0 = search rules in
    rw is (lost_files attempt c.in_err-settle_all.ensures.leaves)

pub returns-in_err-give_all-clause-reads : goal.returns-in_err-give_all-clause-reads
returns-in_err-give_all-clause-reads g c =
    let is : c.from_residual-in_err-give_all.result ≡ Err c.in_err-give_all.field-0.0 = search rules in
    rw is (attempt_reads c.in_ok-settle_all.ensures.reads c.in_err-give_all.ensures.reads)

pub returns-clause-reads : goal.returns-clause-reads
returns-clause-reads g c = attempt_reads c.in_ok-settle_all.ensures.reads c.in_ok-give_all.ensures.reads

pub returns-clause-out : goal.returns-clause-out
returns-clause-out g c = λ lane side.
    ap (λ ends. (ends lane side).state) c.in_ok-give_all.ensures.leaves.ends ∙ c.in_ok-settle_all.ensures.out lane side
