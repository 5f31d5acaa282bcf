use Rattle.std.proofs.Common.{None, arith, length, rules, ◌+◌, ◌<◌, ◌≡◌}
use Rattle.std.proofs.lemmas.Bool.Decides.{nat_tests}
use Rattle.sn_journal.specs.Cutting.{read_line}
use Rattle.sn_journal.proofs.Outlines.{fault_at, faulty_unended, faulty_unread, no_outline, one_outline, outline_end}
use Rattle.sn_journal.proofs.outlining.outline.Goals as goal

pub returns-in_default-clause-fault : goal.returns-in_default-clause-fault
returns-in_default-clause-fault c = λ n e.
    let some : 0 < length c.loop-rest.rest.now = grind (arith, nat_tests) in
    let counted : length c.loop-rest.lines.items + 1 ≡ c.len.result + 1 = omega arith in
    fault_at _ _ _ _ n c.loop-rest.invariant.read c.loop-rest.invariant.fit counted e some
    (faulty_unended _ c.in_default.ensures.none)

pub returns-in_default-clause-none : goal.returns-in_default-clause-none
returns-in_default-clause-none c = λ n lines e. no_outline _ n lines (returns-in_default-clause-fault c n e)

pub returns-in_default-2-clause-fault : goal.returns-in_default-2-clause-fault
returns-in_default-2-clause-fault c = λ n e.
    let some : 0 < length c.loop-rest.rest.now = grind (arith, nat_tests) in
    let counted : length c.loop-rest.lines.items + 1 ≡ c.len.result + 1 = omega arith in
    let none : None ≡ read_line c.in-Some.line.now = search rules in
    fault_at _ _ _ _ n c.loop-rest.invariant.read c.loop-rest.invariant.fit counted e some
    (faulty_unread _ _ c.in-Some.ensures.line none)

pub returns-in_default-2-clause-none : goal.returns-in_default-2-clause-none
returns-in_default-2-clause-none c = λ n lines e. no_outline _ n lines (returns-in_default-2-clause-fault c n e)

pub returns-clause-only : goal.returns-clause-only
returns-clause-only c = λ others read.
    let none : length c.loop-rest.rest.now ≡ 0 = grind (arith, nat_tests) in
    one_outline _ others c.loop-rest.lines.items read
    (outline_end _ _ _ none c.loop-rest.invariant.read c.loop-rest.invariant.fit)
