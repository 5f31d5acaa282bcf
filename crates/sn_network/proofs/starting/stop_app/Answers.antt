-- answers of src/starting.rt, stop_app
use Rattle.std.proofs.Common.{None, [], ap, ◌∙◌}
use Rattle.sn_network.specs.Nets.{set_named}
use Rattle.sn_network.specs.Places.{class_in}
use Rattle.sn_network.proofs.Called.{sound_own}
use Rattle.sn_network.proofs.FirstPlaces.{name_read}
use Rattle.sn_network.proofs.Pushed.{run_stays}
use Rattle.sn_network.proofs.Removed.{found_removed, kept_alone, once_removed, own_kept, ready_left, runs_stopped}
use Rattle.sn_network.proofs.Sums.{get_seen}
use Rattle.sn_network.proofs.starting.stop_app.Goals as goal

pub stop-requires-clause-kept : goal.stop-requires-clause-kept
stop-requires-clause-kept g c =
    own_kept c.args.places.now.items _ _ _
    (get_seen _ _ _ _ c.deref.ensures.value c.find_app-at.ensures.within c.remove-place.ensures.value) c.requires.kept

pub returns-clause-runs : goal.returns-clause-runs
returns-clause-runs g c = λ slots h.
    let here = get_seen _ c.args.places.now.items _ _ c.deref.ensures.value c.find_app-at.ensures.within
    c.remove-place.ensures.value in
    rw c.remove-place.ensures.items
    (runs_stopped c.args.places.now.items _ _ here c.requires.once _ _ _ _ slots h c.args.name.now c.stop.result
    (name_read _ _ _ _ _ c.deref.ensures.value here c.find_app-at.ensures.name)
    (c.stop.ensures.runs slots (sound_own _ _ _ _ _ _ here h)))

pub returns-clause-ready : goal.returns-clause-ready
returns-clause-ready g c =
    let here = get_seen _ c.args.places.now.items _ _ c.deref.ensures.value c.find_app-at.ensures.within
    c.remove-place.ensures.value in
    rw c.remove-place.ensures.items (ready_left c.args.places.now.items _ _ here c.requires.once _ _ c.stop.result
    (run_stays _ _ _ _ [] []
    (c.stop.ensures.runs [] (kept_alone _ _ _ (own_kept c.args.places.now.items _ _ _ here c.requires.kept))))
    c.requires.ready)

pub returns-clause-once : goal.returns-clause-once
returns-clause-once g c =
    let here = get_seen _ c.args.places.now.items _ _ c.deref.ensures.value c.find_app-at.ensures.within
    c.remove-place.ensures.value in
    rw c.remove-place.ensures.items (once_removed c.args.places.now.items _ _ here c.requires.once)

pub returns-clause-classes : goal.returns-clause-classes
returns-clause-classes g c =
    let here = get_seen _ c.args.places.now.items _ _ c.deref.ensures.value c.find_app-at.ensures.within
    c.remove-place.ensures.value in
    rw c.remove-place.ensures.items (found_removed c.args.places.now.items _ _ here c.requires.once _
    ∙ ap (λ name. set_named name None (class_in c.args.places.now.items))
    (name_read _ _ _ _ _ c.deref.ensures.value here c.find_app-at.ensures.name))
