use Rattle.std.proofs.Common.{[], ap, length, ◌∙◌}
use Rattle.sn_app.specs.World.{desk_of}
use Rattle.sn_unit_tests.proofs.edges.writer_of.Goals as goal

pub returns-clause-stays : goal.returns-clause-stays
unfolding desk_of
returns-clause-stays c = (c.in_ok-start.ensures.runs []).answers.stays

pub returns-clause-apps : goal.returns-clause-apps
unfolding desk_of
returns-clause-apps c =
    ap (λ constants. length constants.roster.apps) (c.in_ok-start.ensures.runs []).answers.stays.constants ∙ c.requires.apps
