-- answers of src/names.rt, rank_of
use Rattle.sn_order.proofs.RankedNames.{searched_none, searched_rank}
use Rattle.sn_order.proofs.names.rank_of.Goals as goal

pub returns-in-Ok-clause-rank : goal.returns-in-Ok-clause-rank
returns-in-Ok-clause-rank c = searched_rank c.args.names.now c.requires.rising c.args.name.now c.in-Ok.rank c.in-Ok.ensures.bound c.in-Ok.ensures.ok

pub returns-in-Err-clause-rank : goal.returns-in-Err-clause-rank
returns-in-Err-clause-rank c = searched_none c.args.names.now c.requires.rising c.args.name.now c.in-Err.field-0 c.in-Err.ensures.position
