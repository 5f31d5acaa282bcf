-- answers of src/wire.rt, push_once
use Rattle.sn_app.specs.World.{desk_of}
use Rattle.seat_bench.proofs.wire.push_once.Goals as goal

pub returns-clause-stays : goal.returns-clause-stays
unfolding desk_of
returns-clause-stays g c = c.push-ended.ensures.runs.answers.stays
