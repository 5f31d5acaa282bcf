use Rattle.std.proofs.Common.{◌≡◌, ◌∙◌, Err, ap, rules}
use Rattle.sn_app.proofs.Calling.{gave}
use Rattle.sn_app.proofs.Claiming.{allocated, allocated_not}
use Rattle.sn_app.proofs.OnTrays.{leaves_then}
use Rattle.sn_seat.specs.Trays.{captures_of}
use Rattle.sn_seat.proofs.seat.Seat.allocate.Goals as goal

pub returns-clause-reads : goal.returns-clause-reads
returns-clause-reads g c =
    allocated c.in_ok-refill_where_empty.ensures.reads (c.take_last.ensures.reads (captures_of c.args.shared.now))

pub returns-clause-leaves : goal.returns-clause-leaves
returns-clause-leaves g c =
    leaves_then c.in_ok-refill_where_empty.ensures.leaves (c.take_last.ensures.leaves (captures_of c.args.shared.now))

pub returns-clause-others : goal.returns-clause-others
returns-clause-others g c = λ q differs.
    c.take_last.ensures.others q (λ same. differs (ap gave same)) ∙ ap (λ used. used q) c.in_ok-refill_where_empty.ensures.used

pub returns-in_err-refill_where_empty-clause-reads : goal.returns-in_err-refill_where_empty-clause-reads
returns-in_err-refill_where_empty-clause-reads g c =
    let e : c.from_residual.result ≡ Err c.in_err-refill_where_empty.field-0.0 = search rules in
    rw e (allocated_not c.in_err-refill_where_empty.ensures.reads)

pub returns-in_err-refill_where_empty-clause-others : goal.returns-in_err-refill_where_empty-clause-others
returns-in_err-refill_where_empty-clause-others g c = λ q differs. ap (λ used. used q) c.in_err-refill_where_empty.ensures.used
