-- answers of src/calls.rt, call_at
use Rattle.sn_actions.specs.PlainOf.{plain_of}
use Rattle.sn_network.proofs.Called.{names_called, runs_named, sound_own, stands_after, wired_after}
use Rattle.sn_network.proofs.Sums.{get_read}
use Rattle.sn_network.proofs.calls.call_at.Goals as goal

-- the app at the place
pub call-requires-clause-outs : goal.call-requires-clause-outs
call-requires-clause-outs g c =
    (c.requires.wired c.args.at c.index_mut.result.now (get_read _ _ _ c.requires.at c.index_mut.ensures.value)).1.linked

pub call-requires-clause-sound : goal.call-requires-clause-sound
call-requires-clause-sound g c =
    sound_own _ _ _ _ _ _ (get_read _ _ _ c.requires.at c.index_mut.ensures.value) c.requires.stands.sound

pub returns-clause-runs : goal.returns-clause-runs
returns-clause-runs g c = λ name is.
    let here = get_read _ _ _ c.requires.at c.index_mut.ensures.value in
    let done = c.call.ensures in
    let wired = c.requires.wired c.args.at c.index_mut.result.now here in
    runs_named c.args.places.now.items c.args.at c.index_mut.result.now c.call.new.self here done.name c.requires.stands.apps.once
    _ _ _ _
    c.args.links.now.slots c.call.new.links.slots c.requires.stands.sound c.args.verb (plain_of c.args._plain.now)
    c.index_mut.result.now.ins.items c.index_mut.result.now.outs.items c.call.result name is wired.0 wired.1 done.runs

pub returns-clause-stands : goal.returns-clause-stands
returns-clause-stands g c =
    let here = get_read _ _ _ c.requires.at c.index_mut.ensures.value in
    let done = c.call.ensures in
    stands_after c.args.places.now.items c.args.at c.index_mut.result.now c.call.new.self here done.name
    c.requires.stands.apps.once _ _ _ _
    c.args.links.now.slots c.call.new.links.slots c.requires.stands.sound (plain_of c.args._plain.now) c.call.result
    done.runs done.rows done.ready done.class c.requires.stands

pub returns-clause-wired : goal.returns-clause-wired
returns-clause-wired g c =
    let here = get_read _ _ _ c.requires.at c.index_mut.ensures.value in
    let done = c.call.ensures in
    wired_after c.args.places.now.items c.args.at c.index_mut.result.now c.call.new.self here done.name
    c.requires.stands.apps.once _ _ _ _
    c.args.links.now.slots c.call.new.links.slots c.requires.stands.sound (plain_of c.args._plain.now) c.call.result
    done.runs done.rows done.ready done.class done.ins done.outs c.requires.wired

pub returns-clause-names : goal.returns-clause-names
returns-clause-names g c =
    names_called _ _ _ _ (get_read _ _ _ c.requires.at c.index_mut.ensures.value) c.call.ensures.name c.requires.stands.apps.once
