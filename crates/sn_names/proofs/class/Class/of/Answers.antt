use Rattle.std.proofs.Common.{arith}
use Rattle.sn_names.proofs.ClassPlaces.{later, place_below}
use Rattle.sn_names.proofs.class.Class.of.Goals as goal

pub loop-class-preserved : goal.loop-class-preserved
loop-class-preserved c class e =
    later c.args.text.now c.loop-class.class-index class c.is_word.result c.is_word.ensures c.if-is_word.false e (c.loop-class.invariant class e)

pub returns-clause-none : goal.returns-clause-none
returns-clause-none c class e =
    let before = c.loop-class.invariant class e in
    let below = place_below class in omega arith
