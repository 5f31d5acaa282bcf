use Rattle.std.proofs.Common.{arith, length, ◌<◌}
use Rattle.std.proofs.lemmas.Bool.Decides.{nat_tests}
use Rattle.sn_scenario.specs.DraftView.{reading_of}
use Rattle.sn_scenario.proofs.LineSequence.{read_refused}
use Rattle.sn_scenario.proofs.parse.read_lines.Goals as goal

pub returns-in-Err : goal.returns-in-Err
returns-in-Err c =
    let some : 0 < length c.loop-rest.rest.now = grind (arith, nat_tests) in
    read_refused c.loop-rest.number c.loop-rest.rest.now c.split_line.result.0.now c.without_return.result.now (reading_of c.loop-rest.draft) c.in-Err.fault c.at_line.result _ some c.split_line.ensures.line c.without_return.ensures c.at_line.ensures c.loop-rest.invariant.read c.in-Err.ensures
