-- answers of src/acting.rt, take_start
use Rattle.std.proofs.Common.{Err, rules, ◌≡◌}
use Rattle.sn_app.specs.declared.halt.Halt.TheVariants.{OutOfMemory}
use Rattle.sn_network.proofs.Acted.{took_none, took_start}
use Rattle.sn_network.proofs.acting.take_start.Goals as goal

pub returns-in_err-take_action-clause-took : goal.returns-in_err-take_action-clause-took
returns-in_err-take_action-clause-took g c =
    let e : c.from_residual.result ≡ Err OutOfMemory = search rules in
    rw e (took_none c.args.action.now _ _ c.args.places.now.items c.args._links.now.slots _ _ c.requires.stands)

pub returns-clause-took : goal.returns-clause-took
returns-clause-took g c =
    let done = c.start_app.ensures in
    took_start c.args.action.now _ _ c.args.places.now.items c.start_app.new.places.items c.args._links.now.slots _ _ _ _
    c.requires.stands
    c.in_ok-take_action.ensures.taken c.in_ok-take_action.ensures.consistent c.start_app.result
    c.args.app.0.now c.args.app.1.now c.requires.action
    (done.runs c.args._links.now.slots c.requires.stands.sound) done.once done.ready done.classes
