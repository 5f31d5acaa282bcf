-- answers of src/reclaim_tests.rt, worked_and_reclaimed
use Rattle.sn_seat.proofs.Lending.{same_name}
use Rattle.seat_rig.proofs.reclaim_tests.worked_and_reclaimed.Goals as goal

pub returns-in_err-trial-clause-lent : goal.returns-in_err-trial-clause-lent
returns-in_err-trial-clause-lent c = same_name _ _ _ _ c.in_err-trial.ensures.lent

pub returns-in_err-trial-clause-other_lent : goal.returns-in_err-trial-clause-other_lent
returns-in_err-trial-clause-other_lent c = same_name _ _ _ _ c.in_err-trial.ensures.other_lent

pub returns-in_err-later-clause-lent : goal.returns-in_err-later-clause-lent
returns-in_err-later-clause-lent c = same_name _ _ _ _ c.in_ok-trial.ensures.lent

pub returns-in_err-later-clause-other_lent : goal.returns-in_err-later-clause-other_lent
returns-in_err-later-clause-other_lent c = same_name _ _ _ _ c.in_ok-trial.ensures.other_lent

pub returns-in_err-early-clause-lent : goal.returns-in_err-early-clause-lent
returns-in_err-early-clause-lent c = same_name _ _ _ _ c.in_ok-trial.ensures.lent

pub returns-in_err-early-clause-other_lent : goal.returns-in_err-early-clause-other_lent
returns-in_err-early-clause-other_lent c = same_name _ _ _ _ c.in_ok-trial.ensures.other_lent

pub returns-clause-lent : goal.returns-clause-lent
returns-clause-lent c = same_name _ _ _ _ c.in_ok-trial.ensures.lent

pub returns-clause-other_lent : goal.returns-clause-other_lent
returns-clause-other_lent c = same_name _ _ _ _ c.in_ok-trial.ensures.other_lent
