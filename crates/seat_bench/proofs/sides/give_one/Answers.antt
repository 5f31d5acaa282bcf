-- answers of src/sides.rt, give_one
use Rattle.std.proofs.Common.{◌∙◌}
use Rattle.sn_seat.proofs.Lending.{same_name}
use Rattle.seat_bench.proofs.Wiring.{given_back}
use Rattle.seat_bench.proofs.sides.give_one.Goals as goal

pub returns-in_ok-gave-in-Some-clause-used : goal.returns-in_ok-gave-in-Some-clause-used
returns-in_ok-gave-in-Some-clause-used c =
    let came = c.in_ok-came.ensures in
    given_back c.in-Some.place c.in-Some.is came.fresh came.others c.in_ok-gave-in-Some.ensures.gone

pub returns-in_err-came-clause-lent : goal.returns-in_err-came-clause-lent
returns-in_err-came-clause-lent c = same_name _ _ _ _ c.in_err-came.ensures.lent

pub returns-in_err-gave-in-Some-clause-lent : goal.returns-in_err-gave-in-Some-clause-lent
returns-in_err-gave-in-Some-clause-lent c =
    c.in_err-gave-in-Some.ensures.lent ∙ same_name _ _ _ _ c.in_ok-came.ensures.lent

pub returns-in-None-clause-lent : goal.returns-in-None-clause-lent
returns-in-None-clause-lent c = same_name _ _ _ _ c.in_ok-came.ensures.lent

pub returns-in_ok-gave-in-Some-clause-lent : goal.returns-in_ok-gave-in-Some-clause-lent
returns-in_ok-gave-in-Some-clause-lent c =
    c.in_ok-gave-in-Some.ensures.lent ∙ same_name _ _ _ _ c.in_ok-came.ensures.lent
