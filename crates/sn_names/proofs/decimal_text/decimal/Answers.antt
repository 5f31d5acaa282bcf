use Rattle.std.proofs.Common.{arith, refl, sym, ◌∙◌, ◌≡◌}
use Rattle.sn_names.proofs.Decimals.{digits_from_parse, parsed_digits, read_alone}
use Rattle.sn_names.proofs.decimal_text.decimal.Goals as goal

pub returns-in_default-parse-clause-none : goal.returns-in_default-parse-clause-none
returns-in_default-parse-clause-none c n d =
    parsed_digits c.in-Ok.digits.now c.in_default-parse.field-0 c.args.max n (omega arith) c.in_default-parse.ensures.value.0 (rw c.in-Ok.ensures.cases.0 d)

pub returns-then-number-max-clause-none : goal.returns-then-number-max-clause-none
returns-then-number-max-clause-none c n d =
    let same : n ≡ c.in-Ok-parse.number = read_alone c.in-Ok.digits.now c.args.max n c.in-Ok-parse.number (omega arith) c.in-Ok-parse.ensures.value.0 (rw c.in-Ok.ensures.cases.0 d) in
    let within = d.within in omega arith

pub returns-clause-found : goal.returns-clause-found
returns-clause-found c =
    let e = c.in-Ok.ensures.cases.0 in
    let b = c.if-not-begins_plainly.ensures in
    record {
      digits = sym e ∙ digits_from_parse c.in-Ok.digits.now c.in-Ok-parse.number c.in-Ok-parse.ensures.value.0 (rw e (b.sign refl)) (rw e (b.zero refl));
      short = omega arith;
      within = omega arith;
    }

pub returns-clause-only : goal.returns-clause-only
returns-clause-only c other d =
    read_alone c.in-Ok.digits.now c.args.max other c.in-Ok-parse.number (omega arith) c.in-Ok-parse.ensures.value.0 (rw c.in-Ok.ensures.cases.0 d)
