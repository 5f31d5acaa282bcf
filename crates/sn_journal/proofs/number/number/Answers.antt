use Rattle.std.proofs.Common.{arith, refl, sym, ◌∙◌, ◌≡◌}
use Rattle.std.specs.Fmt.{decimal}
use Rattle.sn_journal.proofs.Digits.{digits_from_parse, number_found, number_none, parsed, utf8_digits}
use Rattle.sn_journal.proofs.number.number.Goals as goal

pub returns-then-not-begins_plainly-clause-exact : goal.returns-then-not-begins_plainly-clause-exact
returns-then-not-begins_plainly-clause-exact c =
    sym (number_none c.args.text.now (λ n small e. c.if-not-begins_plainly.ensures.no refl n small e))

pub returns-in_default-clause-exact : goal.returns-in_default-clause-exact
returns-in_default-clause-exact c =
    sym (number_none c.args.text.now (λ n small e. c.in_default.ensures.cases.0 (utf8_digits c.args.text.now n small e)))

pub returns-in_default-parse-clause-exact : goal.returns-in_default-parse-clause-exact
returns-in_default-parse-clause-exact c =
    sym (number_none c.args.text.now (λ n small e.
    parsed c.in-Ok.digits.now c.in_default-parse.field-0 n small c.in_default-parse.ensures.value.0
    (rw c.in-Ok.ensures.cases.0 e)))

pub returns-clause-digits : goal.returns-clause-digits
returns-clause-digits c =
    let e = c.in-Ok.ensures.cases.0 in
    let b = c.if-not-begins_plainly.ensures in
    sym e
    ∙ digits_from_parse c.in-Ok.digits.now c.in-Ok-parse.number c.in-Ok-parse.ensures.value.0 (rw e (b.sign refl))
    (rw e (b.zero refl))

pub returns-clause-exact : goal.returns-clause-exact
returns-clause-exact c =
    let e = c.in-Ok.ensures.cases.0 in
    let b = c.if-not-begins_plainly.ensures in
    let digits : c.args.text.now ≡ decimal c.in-Ok-parse.number =
    sym e
    ∙ digits_from_parse c.in-Ok.digits.now c.in-Ok-parse.number c.in-Ok-parse.ensures.value.0 (rw e (b.sign refl))
    (rw e (b.zero refl))
    in
    sym (number_found c.args.text.now c.in-Ok-parse.number (omega arith) digits)
