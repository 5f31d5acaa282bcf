use Rattle.std.proofs.Common.{sym, ◌∙◌}
use Rattle.sn_seat.proofs.EndLists.{found, not_lost}
use Rattle.sn_seat.proofs.ledger_ends.end_place.Goals as goal

pub unreachable-requires : goal.unreachable-requires
unreachable-requires c = not_lost c.args.number c.args.side c.args.ends.now.items c.requires
    (sym c.find_end.ensures ∙ c.in-None.is)

pub returns-clause-at : goal.returns-clause-at
returns-clause-at c = found c.args.number c.args.side c.args.ends.now.items _ (sym c.find_end.ensures ∙ c.in-Some.is)
