use Rattle.std.proofs.Common.{[], arith, length, ◌<◌, ◌≡◌}
use Rattle.std.proofs.lemmas.Bool.Decides.{nat_tests}
use Rattle.sn_names.proofs.Reading.{name_first_fault, split_name_fault}
use Rattle.sn_names.proofs.parts.name_fault.Goals as goal

pub returns-then-is_empty-clause-fault : goal.returns-then-is_empty-clause-fault
returns-then-is_empty-clause-fault c =
    let none : length c.split_name.result.0.now ≡ 0 = grind (arith, nat_tests) in
    name_first_fault c.args.text.now (length c.args.text.now) 0 (c.split_name.ensures.none none []) (omega arith)

pub returns-clause-fault : goal.returns-clause-fault
returns-clause-fault c =
    let some : 0 < length c.split_name.result.0.now = grind (arith, nat_tests) in
    let more : 0 < length c.split_name.result.1.now = grind (arith, nat_tests) in
    split_name_fault c.args.text.now c.split_name.result.0.now c.split_name.result.1.now c.split_name.ensures.parts more (c.split_name.ensures.name some [])
