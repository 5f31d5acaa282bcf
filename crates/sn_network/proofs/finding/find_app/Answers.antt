-- answers of src/finding.rt, find_app
use Rattle.std.proofs.Common.{sym, ◌∙◌}
use Rattle.sn_network.proofs.FirstPlaces.{found_here, found_none, missing}
use Rattle.sn_network.proofs.finding.find_app.Goals as goal

-- src/finding.rt:27:17
pub unreachable-requires : goal.unreachable-requires
unreachable-requires c =
    missing c.args.places.now c.args.name.now
    (found_none c.args.places.now c.args.name.now (sym c.place_of.ensures ∙ c.in-None.is)) c.requires

pub returns-clause-name : goal.returns-clause-name
returns-clause-name c = found_here c.args.places.now c.args.name.now c.in-Some.at (sym c.place_of.ensures ∙ c.in-Some.is)
