use Rattle.std.proofs.Common.{arith, length, ◌<◌, ◌≡◌}
use Rattle.std.proofs.lemmas.Bool.Decides.{nat_tests}
use Rattle.sn_scenario.proofs.PlainSpelling.{spelled_end, spelled_next}
use Rattle.sn_scenario.proofs.plain.plain_text.Goals as goal

pub loop-rest-preserved : goal.loop-rest-preserved
loop-rest-preserved c =
    let some : 0 < length c.loop-rest.rest.now = grind (arith, nat_tests) in
    record { read = spelled_next _ _ _ _ _ _ some c.split_line.ensures.line c.split_line.ensures.rest c.in_ok-push_line.ensures c.loop-rest.invariant.read }

pub returns : goal.returns
returns c =
    let none : length c.loop-rest.rest.now ≡ 0 = grind (arith, nat_tests) in
    spelled_end _ _ _ none c.loop-rest.invariant.read
