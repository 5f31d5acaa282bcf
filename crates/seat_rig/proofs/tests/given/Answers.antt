-- answers of src/tests.rt, given
use Rattle.std.proofs.Common.{◌∙◌}
use Rattle.sn_seat.proofs.Lending.{same_name}
use Rattle.seat_rig.proofs.tests.given.Goals as goal

pub returns-in_err-place : goal.returns-in_err-place
returns-in_err-place c = same_name _ _ _ _ c.in_err-place.ensures.lent

pub returns-in_default : goal.returns-in_default
returns-in_default c = same_name _ _ _ _ c.in_ok-place.ensures.lent

pub returns-in_err-gave : goal.returns-in_err-gave
returns-in_err-gave c = c.in_err-gave.ensures.lent ∙ same_name _ _ _ _ c.in_ok-place.ensures.lent

pub returns : goal.returns
returns c = c.in_ok-gave.ensures.lent ∙ same_name _ _ _ _ c.in_ok-place.ensures.lent
