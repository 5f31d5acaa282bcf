-- answers of src/starting.rt, start_app
use Rattle.std.proofs.Common.{ap, Err, Some, rules, ◌∙◌, ◌≡◌, []}
use Rattle.sn_app.specs.declared.halt.Halt.TheVariants.{OutOfMemory}
use Rattle.sn_kind.specs.Kinds.{kind_class}
use Rattle.sn_network.specs.Nets.{set_named}
use Rattle.sn_network.specs.Places.{class_in}
use Rattle.sn_network.specs.declared.place.Place.{Place}
use Rattle.sn_network.proofs.GaveUp.{gave_up_at}
use Rattle.sn_network.proofs.Pushed.{found_pushed, once_pushed, ready_pushed, runs_not_started, runs_started, run_stays}
use Rattle.sn_network.proofs.starting.start_app.Goals as goal

-- memory was refused
pub returns-in_err-name-clause-runs : goal.returns-in_err-name-clause-runs
returns-in_err-name-clause-runs g c = λ slots h.
    let e : c.from_residual.result ≡ Err OutOfMemory = search rules in gave_up_at _ _ _ _ _ c.from_residual.result e

pub returns-in_err-reserve-clause-runs : goal.returns-in_err-reserve-clause-runs
returns-in_err-reserve-clause-runs g c = λ slots h.
    let e : c.from_residual-in_err-reserve.result ≡ Err OutOfMemory = search rules in
    gave_up_at _ _ _ _ _ c.from_residual-in_err-reserve.result e

-- the app didn't start
pub returns-in_err-kind-clause-runs : goal.returns-in_err-kind-clause-runs
returns-in_err-kind-clause-runs g c = λ slots h.
    let e : c.from_residual-in_err-kind.result ≡ Err c.in_err-kind.field-0.0 = search rules in
    rw e (runs_not_started c.args.places.now.items _ _ _ _ slots h c.args.name.now c.args.spec.now _ c.app_row-row.ensures _
    c.in_err-kind.field-0.0 (c.in_err-kind.ensures.runs slots))

-- it started: it is the last of all
pub returns-clause-runs : goal.returns-clause-runs
returns-clause-runs g c = λ slots h.
    rw c.push_reserved.ensures.items (rw c.in_ok-reserve.ensures.items
    (runs_started c.args.places.now.items _ _ _ _ slots h c.args.name.now c.args.spec.now _ c.app_row-row.ensures _
    c.in_ok-name.ensures c.requires.absent c.in_ok-kind.ensures.places (c.in_ok-kind.ensures.runs slots)))

pub returns-clause-ready : goal.returns-clause-ready
returns-clause-ready g c =
    rw c.push_reserved.ensures.items (rw c.in_ok-reserve.ensures.items
    (ready_pushed c.args.places.now.items _ _ _
    (run_stays _ _ _ _ [] [] (c.in_ok-kind.ensures.runs []))
    c.requires.ready c.in_ok-kind.ensures.ready))

pub returns-clause-once : goal.returns-clause-once
returns-clause-once g c =
    rw c.push_reserved.ensures.items (rw c.in_ok-reserve.ensures.items
    (once_pushed c.args.places.now.items _ (ap (class_in c.args.places.now.items) c.in_ok-name.ensures ∙ c.requires.absent)))

pub returns-clause-classes : goal.returns-clause-classes
returns-clause-classes g c =
    rw c.push_reserved.ensures.items (rw c.in_ok-reserve.ensures.items
    (found_pushed (λ (place : Place). kind_class place.kind) c.args.places.now.items _
    (ap (class_in c.args.places.now.items) c.in_ok-name.ensures ∙ c.requires.absent)
    ∙ (ap (λ n. set_named n (Some (kind_class c.in_ok-kind.kind)) (class_in c.args.places.now.items)) c.in_ok-name.ensures
    ∙ ap (λ x. set_named c.args.name.now (Some x) (class_in c.args.places.now.items)) c.in_ok-kind.ensures.class)))
