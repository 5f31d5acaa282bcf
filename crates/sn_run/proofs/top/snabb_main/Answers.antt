-- What the course of the call says of its answer, and both directions of each cause.
use Rattle.sn_run.proofs.AnswerClauses.{bad_words_of, calls_of, caused_of, counts_of, expected_of, headline_of, leaves_of}
use Rattle.sn_run.proofs.AnswerClauses.{never_unprinted_of, reports_of, shown_taken, text_of_answer, front_of_answer}
use Rattle.sn_run.proofs.top.snabb_main.Goals as goal

pub returns-clause-headline : goal.returns-clause-headline
returns-clause-headline g c = headline_of _ _ _ _ c.answer_words.ensures.answered.course

pub returns-clause-reports : goal.returns-clause-reports
returns-clause-reports g c = reports_of _ _ _ _ c.answer_words.ensures.answered.course

pub returns-clause-leaves : goal.returns-clause-leaves
returns-clause-leaves g c t = leaves_of _ _ t _ _ c.answer_words.ensures.answered.course

pub returns-clause-calls : goal.returns-clause-calls
returns-clause-calls g c = calls_of _ _ _ _ c.answer_words.ensures.answered.course

pub returns-clause-bad_words : goal.returns-clause-bad_words
returns-clause-bad_words g c = bad_words_of _ _ _ _ _ c.answer_words.ensures.answered.course

pub returns-clause-caused : goal.returns-clause-caused
returns-clause-caused g c = caused_of _ _ _ _ c.answer_words.ensures.answered.course

pub returns-clause-expected : goal.returns-clause-expected
returns-clause-expected g c said due =
    expected_of _ _ c.one_fault.ensures c.no_fault.ensures _ _ said c.answer_words.ensures.answered.course due

pub returns-clause-faults : goal.returns-clause-faults
returns-clause-faults g c = counts_of _ _ _ _ c.answer_words.ensures.answered.course

pub returns-clause-shown : goal.returns-clause-shown
returns-clause-shown g c said t expected is =
    shown_taken _ _ c.one_fault.ensures c.no_fault.ensures _ _ said c.answer_words.ensures.answered
    c.answer_words.ensures.replaced t expected is

pub returns-clause-never_replaced : goal.returns-clause-never_replaced
returns-clause-never_replaced g c is = never_unprinted_of _ _ _ _ _ _ c.answer_words.ensures.answered.course is

pub returns-clause-text : goal.returns-clause-text
returns-clause-text g c printed = text_of_answer _ _ _ _ c.answer_words.ensures.answered printed

pub returns-clause-front : goal.returns-clause-front
returns-clause-front g c failed = front_of_answer _ _ _ _ c.answer_words.ensures.answered failed
