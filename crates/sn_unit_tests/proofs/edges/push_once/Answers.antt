use Rattle.sn_app.specs.World.{desk_of}
use Rattle.sn_unit_tests.proofs.edges.push_once.Goals as goal

pub returns-clause-stays : goal.returns-clause-stays
unfolding desk_of
returns-clause-stays g c = c.push-ended.ensures.runs.answers.stays
