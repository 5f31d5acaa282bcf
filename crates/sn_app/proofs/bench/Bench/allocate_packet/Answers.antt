use Rattle.std.proofs.Common.{◌≡◌, ◌∙◌, Err, ap, rules}
use Rattle.sn_app.proofs.Calling.{gave}
use Rattle.sn_app.proofs.Claiming.{allocated, allocated_not}
use Rattle.sn_app.proofs.bench.Bench.allocate_packet.Goals as goal

pub returns-clause-reads : goal.returns-clause-reads
returns-clause-reads c = allocated c.in_ok-refill_where_empty.ensures.reads c.take_last.ensures.reads

pub returns-clause-others : goal.returns-clause-others
returns-clause-others c = λ q differs.
    c.take_last.ensures.others q (λ same. differs (ap gave same)) ∙ ap (λ used. used q) c.in_ok-refill_where_empty.ensures.used

pub returns-in_err-refill_where_empty-clause-reads : goal.returns-in_err-refill_where_empty-clause-reads
returns-in_err-refill_where_empty-clause-reads c =
    let e : c.from_residual.result ≡ Err c.in_err-refill_where_empty.field-0.0 = search rules in
    rw e (allocated_not c.in_err-refill_where_empty.ensures.reads)

pub returns-in_err-refill_where_empty-clause-others : goal.returns-in_err-refill_where_empty-clause-others
returns-in_err-refill_where_empty-clause-others c = λ q differs. ap (λ used. used q) c.in_err-refill_where_empty.ensures.used
