use Rattle.std.proofs.Common.{◌∙◌, ap, length, subst, sym, arith}
use Rattle.sn_manager.specs.Managers.{speakers_in}
use Rattle.sn_sharing.specs.Opened.{AreSilent}
use Rattle.sn_crew.proofs.Speaking.{said_first}
use Rattle.sn_crew.proofs.Unspent.{begins_unspent}
use Rattle.sn_crew.proofs.crew.Crew.open.Goals as goal

pub meet-requires : goal.meet-requires
meet-requires c =
    let form = c.args.scenario in
    let shared = c.in_ok-shared.field-0.shared in
    let opened = c.in_ok-shared.ensures in
    let speakers = speakers_in c.new-manager.result in
    let said = c.round.ensures in
    record {
      shared = record { group_is = opened.group; lanes = opened.lanes };
      within = omega (arith);
      workers = c.in_ok-places.ensures.as_many;
      places = c.in_ok-places.ensures.each;
      said = said_first form shared speakers (speakers_in c.round.new.self)
          (subst (λ xs. AreSilent xs shared.channels.items) (sym c.new-manager.ensures) opened.speakers)
          (ap length c.new-manager.ensures ∙ opened.workers) said.said said.channels said.ahead;
    }

pub returns-clause-unspent : goal.returns-clause-unspent
returns-clause-unspent c = begins_unspent c.meet.new.self c.meet.ensures.underway c.meet.ensures.rounds
