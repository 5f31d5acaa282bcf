use Rattle.std.proofs.Common.{subst, refl}
use Rattle.sn_scenario.specs.declared.settings.Settings.{Settings}
use Rattle.sn_sharing.proofs.OpenedSeats.{all_open, all_silent, apart_lanes, of_worker, worker_new}
use Rattle.sn_sharing.specs.Laying.{AreLaid}
use Rattle.sn_sharing.proofs.opening.open.Goals as goal

pub seat_all-requires-clause-ends : goal.seat_all-requires-clause-ends
seat_all-requires-clause-ends c = λ worker ends there.
    let form = c.args.scenario.now in
    let ids = c.in_ok-lanes.lanes.items in
    let laid =
    subst (λ lines. AreLaid c.settings-settings.result.workers lines ids c.in_ok-lanes.ends.items) c.lanes-lines.ensures.same
    c.in_ok-lanes.ensures in
    worker_new worker form.lanes ids ends (apart_lanes form.settings.workers form.lanes c.lanes-lines.ensures.bounds)
    (of_worker c.settings-settings.result.workers form.lanes ids c.in_ok-lanes.ends.items worker ends laid there)

pub returns-clause-seats : goal.returns-clause-seats
returns-clause-seats c =
    let form = c.args.scenario.now in
    let ids = c.in_ok-lanes.lanes.items in
    let laid =
    subst (λ (s : Settings). AreLaid s.workers form.lanes ids c.in_ok-lanes.ends.items) c.settings-settings.ensures.same
    (subst (λ lines. AreLaid c.settings-settings.result.workers lines ids c.in_ok-lanes.ends.items) c.lanes-lines.ensures.same
    c.in_ok-lanes.ensures) in
    let seated = c.in_ok-channels.field-0 in
    all_open form
    (record {
      lanes = c.in_ok-lanes.lanes;
      group = c.in_ok-group.group;
      channels = seated.channels;
      captures = c.args.captures;
    }) c.in_ok-lanes.ends.items seated c.lanes-lines.ensures.bounds laid c.in_ok-channels.ensures refl c.requires

pub returns-clause-speakers : goal.returns-clause-speakers
returns-clause-speakers c =
    all_silent c.args.scenario.now c.in_ok-lanes.ends.items c.in_ok-group.group.id c.in_ok-channels.field-0
    c.in_ok-channels.ensures
