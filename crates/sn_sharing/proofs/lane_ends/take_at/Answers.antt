use Rattle.sn_sharing.proofs.TakenEnds.{others_at}
use Rattle.sn_sharing.proofs.lane_ends.take_at.Goals as goal

pub returns-clause-others : goal.returns-clause-others
returns-clause-others c =
    others_at c.args.ends.now.items c.args.worker c.args.number c.index_mut.result.now c.take_end.new.ends
    c.index_mut.ensures.value c.take_end.ensures.others
