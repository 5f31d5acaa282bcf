use Rattle.std.proofs.Common.{None, Ok, Some, ap, false, sym, true, ◌∙◌, ◌≡◌, rules}
use Rattle.sn_journal.specs.JournalText.{spaced}
use Rattle.sn_journal.specs.LineReading.{line_from}
use Rattle.sn_journal.proofs.LineKinds.{known_kind, no_kind, read_spelled}
use Rattle.sn_journal.proofs.outlining.read_line.Goals as goal

pub returns-in_default-clause-exact : goal.returns-in_default-clause-exact
returns-in_default-clause-exact c = no_kind _ _ c.split_word.ensures.word c.in_default.ensures.exact

pub returns-then-not-branch-clause-exact : goal.returns-then-not-branch-clause-exact
returns-then-not-branch-clause-exact c =
    let no : c.in_ok-read_numbers.field-0 ≡ false = search rules in
    known_kind _ _ _ _ None c.split_word.ensures.word c.split_word.ensures.rest c.in-Some.ensures.exact
    (c.in_ok-read_numbers.ensures.none (ap Ok no))

pub returns-clause-exact : goal.returns-clause-exact
returns-clause-exact c =
    let yes : c.in_ok-read_numbers.field-0 ≡ true = search rules in
    c.line_from.ensures.exact
    ∙ ap (line_from c.in-Some.kind) c.deref.ensures.value
    ∙ known_kind _ _ _ _ (Some _) c.split_word.ensures.word c.split_word.ensures.rest c.in-Some.ensures.exact
    (c.in_ok-read_numbers.ensures.read (ap Ok yes))

pub returns-clause-spelled : goal.returns-clause-spelled
returns-clause-spelled c =
    let yes : c.in_ok-read_numbers.field-0 ≡ true = search rules in
    read_spelled _ _ _ _ _ c.line_from.result c.split_word.ensures.parts c.in-Some.ensures.word
    (c.in_ok-read_numbers.ensures.text (ap Ok yes) ∙ ap spaced (sym c.deref.ensures.value)) c.line_from.ensures.kind
    c.line_from.ensures.numbers
