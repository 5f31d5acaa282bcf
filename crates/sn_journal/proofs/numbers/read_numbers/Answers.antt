use Rattle.std.proofs.Common.{arith, length, sym, ◌<◌}
use Rattle.std.proofs.lemmas.Bool.Decides.{nat_tests}
use Rattle.sn_journal.proofs.Pieces.{read_next, read_none, text_next}
use Rattle.sn_journal.proofs.numbers.read_numbers.Goals as goal

pub returns-in_default-clause-none : goal.returns-in_default-clause-none
returns-in_default-clause-none c = λ no.
    let some : 0 < length c.loop-rest.rest.now = grind (arith, nat_tests) in
    read_none _ _ _ _ _ some c.split_at.ensures.back c.split_word.ensures.word (sym c.in_default.ensures.exact)
    c.loop-rest.invariant.read

pub loop-rest-preserved : goal.loop-rest-preserved
loop-rest-preserved c =
    let some : 0 < length c.loop-rest.rest.now = grind (arith, nat_tests) in
    record {
      read = read_next _ _ _ _ _ _ _ _ c.in_ok-push.ensures.items some c.split_at.ensures.back c.split_word.ensures.word
          c.split_word.ensures.rest
          (sym c.in-Some.ensures.exact) c.loop-rest.invariant.read;
      text = text_next _ _ _ _ _ _ _ _ c.in_ok-push.ensures.items some c.split_at.ensures.back c.split_word.ensures.parts
          c.in-Some.ensures.digits
          c.loop-rest.invariant.space c.loop-rest.invariant.text;
      space = c.split_word.ensures.stop;
    }
