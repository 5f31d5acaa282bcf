use Rattle.std.proofs.Common.{filter}
use Rattle.sn_scenario.specs.ConfigLines.{no_config, of_worker}
use Rattle.sn_scenario.proofs.OwnEnds.{ends_own}
use Rattle.sn_scenario.proofs.PlanLaws.{plan_prefix, plan_taken}
use Rattle.sn_scenario.proofs.RosterNames.{all_listed}
use Rattle.sn_scenario.specs.Scenarios.{IsBounded}
use Rattle.sn_scenario.proofs.scenario.Scenario.plan.Goals as goal

pub returns-clause-taken : goal.returns-clause-taken
returns-clause-taken c =
    let laws = rw c.deref.ensures.value at c.in_ok-actions.ensures.laws in
    rw (← c.self.view_is) (λ n. plan_taken no_config (filter (of_worker c.args.worker) c.self.inside.placed.items) n laws)

pub returns-clause-prefixes : goal.returns-clause-prefixes
returns-clause-prefixes c =
    let laws = rw c.deref.ensures.value at c.in_ok-actions.ensures.laws in
    rw (← c.self.view_is) (λ n. plan_prefix no_config (filter (of_worker c.args.worker) c.self.inside.placed.items) laws n)

pub returns-clause-listed : goal.returns-clause-listed
unfolding IsBounded
returns-clause-listed c =
    let laws = rw c.deref.ensures.value at c.in_ok-actions.ensures.laws in
    let s = c.self.inside in
    rw (← c.self.view_is) (all_listed c.args.worker (record { settings = s.settings; lanes = s.lanes.items; journal = s.journal; placed = s.placed.items; stops = s.stops.items; captures = s.captures.items; outputs = s.outputs.items }) laws c.self.invariant.0.served.each)

pub returns-clause-own_ends : goal.returns-clause-own_ends
unfolding IsBounded
returns-clause-own_ends c =
    let laws = rw c.deref.ensures.value at c.in_ok-actions.ensures.laws in
    let s = c.self.inside in
    rw (← c.self.view_is) (ends_own s.lanes.items s.captures.items s.outputs.items c.args.worker no_config s.placed.items laws
    c.self.invariant.0.served.each)
