-- answers of src/acting.rt, take_stop
use Rattle.std.proofs.Common.{Err, rules, ◌≡◌}
use Rattle.sn_app.specs.declared.halt.Halt.TheVariants.{OutOfMemory}
use Rattle.sn_network.proofs.Acted.{took_none, took_stop}
use Rattle.sn_network.proofs.acting.take_stop.Goals as goal

pub returns-in_err-take_action-clause-took : goal.returns-in_err-take_action-clause-took
returns-in_err-take_action-clause-took g c =
    let e : c.from_residual.result ≡ Err OutOfMemory = search rules in
    rw e (took_none c.args.action.now _ _ c.args.places.now.items c.args._links.now.slots _ _ c.requires.stands)

pub returns-clause-took : goal.returns-clause-took
returns-clause-took g c =
    let done = c.stop_app.ensures in
    took_stop c.args.action.now _ _ c.args.places.now.items c.stop_app.new.places.items c.args._links.now.slots _ _ _ _
    c.requires.stands
    c.in_ok-take_action.ensures.taken c.in_ok-take_action.ensures.consistent c.stop_app.result
    c.args.name.now c.requires.action
    (done.runs c.args._links.now.slots c.requires.stands.sound) done.once done.ready done.classes
