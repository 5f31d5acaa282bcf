-- answers of src/starting.rt, reconfig_app
use Rattle.std.proofs.Common.{[], refl, subst, sym}
use mathlib.Core.Path.{fun_ext}
use Rattle.sn_app.specs.Starts.{ArgIsThere}
use Rattle.sn_config.specs.ArgText.{IsArgOf}
use Rattle.sn_network.proofs.Called.{class_after, once_after, sound_own}
use Rattle.sn_network.proofs.FirstPlaces.{name_read}
use Rattle.sn_network.proofs.Pushed.{run_stays}
use Rattle.sn_network.proofs.Reconfigured.{class_read, ready_reconfigured, runs_reconfigured}
use Rattle.sn_network.proofs.Removed.{kept_alone, own_kept}
use Rattle.sn_network.proofs.Sums.{get_seen}
use Rattle.sn_network.proofs.starting.reconfig_app.Goals as goal

pub reconfig-requires-clause-arg : goal.reconfig-requires-clause-arg
reconfig-requires-clause-arg g c =
    let here = get_seen _ c.args.places.now.items _ _ c.deref.ensures.value c.find_app-at.ensures.within c.index_mut.ensures.value
    in
    subst (λ class. IsArgOf class c.args.spec.now.arg)
    (sym (class_read c.args.places.now.items _ _ _ _ here
    (name_read _ _ _ _ _ c.deref.ensures.value here c.find_app-at.ensures.name)
    c.requires.once c.requires.class)) c.requires.arg

pub reconfig-requires-clause-there : goal.reconfig-requires-clause-there
reconfig-requires-clause-there g c =
    let here = get_seen _ c.args.places.now.items _ _ c.deref.ensures.value c.find_app-at.ensures.within c.index_mut.ensures.value
    in
    subst (λ class. ArgIsThere class c.args.spec.now.arg (g.C.Ctx.tray c.args.ctx.now))
    (sym (class_read c.args.places.now.items _ _ _ _ here
    (name_read _ _ _ _ _ c.deref.ensures.value here c.find_app-at.ensures.name)
    c.requires.once c.requires.class)) c.requires.there

pub returns-clause-runs : goal.returns-clause-runs
returns-clause-runs g c = λ slots h.
    let here = get_seen _ c.args.places.now.items _ _ c.deref.ensures.value c.find_app-at.ensures.within c.index_mut.ensures.value
    in
    runs_reconfigured c.args.places.now.items _ _ _ here refl c.requires.once _ _ _ _ slots h c.args.name.now c.args.spec.now
    c.reconfig.result
    (name_read _ _ _ _ _ c.deref.ensures.value here c.find_app-at.ensures.name)
    (c.reconfig.ensures.runs slots (sound_own _ _ _ _ _ _ here h))

pub returns-clause-ready : goal.returns-clause-ready
returns-clause-ready g c =
    let here = get_seen _ c.args.places.now.items _ _ c.deref.ensures.value c.find_app-at.ensures.within c.index_mut.ensures.value
    in
    ready_reconfigured c.args.places.now.items _ _ _ here refl c.requires.once _ _ c.reconfig.result
    (run_stays _ _ _ _ [] []
    (c.reconfig.ensures.runs [] (kept_alone _ _ _ (own_kept c.args.places.now.items _ _ _ here c.requires.kept))))
    c.requires.ready c.reconfig.ensures.ready

pub returns-clause-once : goal.returns-clause-once
returns-clause-once g c =
    once_after c.args.places.now.items _ _ _
    (get_seen _ c.args.places.now.items _ _ c.deref.ensures.value c.find_app-at.ensures.within c.index_mut.ensures.value)
    refl c.requires.once

pub returns-clause-classes : goal.returns-clause-classes
returns-clause-classes g c =
    fun_ext (class_after c.args.places.now.items _ _ _
    (get_seen _ c.args.places.now.items _ _ c.deref.ensures.value c.find_app-at.ensures.within c.index_mut.ensures.value)
    refl c.requires.once c.reconfig.ensures.class)
