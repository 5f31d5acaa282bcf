use Rattle.std.proofs.Common.{sym, ◌∙◌}
use Rattle.sn_sharing.proofs.TakenEnds.{found_end, not_lost, others_stay}
use Rattle.sn_sharing.proofs.lane_ends.take_end.Goals as goal

pub unreachable-requires : goal.unreachable-requires
unreachable-requires c =
    not_lost c.args.number c.args.ends.now.items c.requires.end c.requires.there (sym c.place_of.ensures ∙ c.in_default.is)

pub returns-clause-end : goal.returns-clause-end
returns-clause-end c =
    found_end c.args.number c.args.ends.now.items c.in-Some.place c.remove.result (sym c.place_of.ensures ∙ c.in-Some.is)
    c.remove.ensures.value

pub returns-clause-others : goal.returns-clause-others
returns-clause-others c = λ other apart.
    rw c.remove.ensures.items
    (others_stay c.args.number c.args.ends.now.items c.in-Some.place c.remove.result (sym c.place_of.ensures ∙ c.in-Some.is)
    other apart)
