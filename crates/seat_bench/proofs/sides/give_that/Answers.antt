-- answers of src/sides.rt, give_that
use Rattle.std.proofs.Common.{◌∙◌, refl}
use Rattle.sn_seat.proofs.Lending.{same_name}
use Rattle.sn_seat.specs.declared.gave.Gave.TheVariants.{Full, Worn}
use Rattle.seat_bench.proofs.Wiring.{not_gone}
use Rattle.seat_bench.proofs.sides.give_that.Goals as goal

pub free-requires : goal.free-requires
free-requires c = not_gone {kept = Full} c.args.place c.in_ok-gave.ensures.used c.in-Full.is refl c.requires

pub free-requires-in-Worn : goal.free-requires-in-Worn
free-requires-in-Worn c = not_gone {kept = Worn} c.args.place c.in_ok-gave.ensures.used c.in-Worn.is refl c.requires

pub returns-in-Full-clause-lent : goal.returns-in-Full-clause-lent
returns-in-Full-clause-lent c = same_name _ _ _ _ c.free.ensures.lent ∙ c.in_ok-gave.ensures.lent

pub returns-in-Worn-clause-lent : goal.returns-in-Worn-clause-lent
returns-in-Worn-clause-lent c = same_name _ _ _ _ c.free-in-Worn.ensures.lent ∙ c.in_ok-gave.ensures.lent
