-- answers of src/committing.rt, commit
use Rattle.std.proofs.Common.{Err, rules, ◌≡◌}
use Rattle.sn_app.specs.declared.halt.Halt.TheVariants.{OutOfMemory}
use Rattle.sn_network.proofs.Committed.{breathes_committed, classes_committed, ins_there, outs_there, runs_committed}
use Rattle.sn_network.proofs.GaveUp.{gave_up}
use Rattle.sn_network.proofs.committing.commit.Goals as goal

pub wire_all-requires-clause-ins : goal.wire_all-requires-clause-ins
wire_all-requires-clause-ins g c = ins_there _ _ _ _ _ c.requires.stands

pub wire_all-requires-clause-outs : goal.wire_all-requires-clause-outs
wire_all-requires-clause-outs g c = outs_there _ _ _ _ _ c.requires.stands

pub returns-in_err-wire_all-clause-runs : goal.returns-in_err-wire_all-clause-runs
returns-in_err-wire_all-clause-runs g c =
    let e : c.from_residual.result ≡ Err OutOfMemory = search rules in rw e (gave_up _ _ _ _)

pub pulls_in-requires : goal.pulls_in-requires
pulls_in-requires g c =
    classes_committed c.args.network.now.places.items c.wire_all.new.places.items c.in_ok-wire_all.ensures.same _ _ _ _
    c.deref.result.now c.deref.ensures.value c.requires.stands

pub returns-in_err-pulls-clause-runs : goal.returns-in_err-pulls-clause-runs
returns-in_err-pulls-clause-runs g c =
    let e : c.from_residual-in_err-pulls.result ≡ Err OutOfMemory = search rules in rw e (gave_up _ _ _ _)

pub pushes_in-requires : goal.pushes_in-requires
pushes_in-requires g c =
    classes_committed c.args.network.now.places.items c.wire_all.new.places.items c.in_ok-wire_all.ensures.same _ _ _ _
    c.deref-2.result.now c.deref-2.ensures.value c.requires.stands

pub returns-in_err-pushes-clause-runs : goal.returns-in_err-pushes-clause-runs
returns-in_err-pushes-clause-runs g c =
    let e : c.from_residual-in_err-pushes.result ≡ Err OutOfMemory = search rules in rw e (gave_up _ _ _ _)

pub returns-clause-runs : goal.returns-clause-runs
returns-clause-runs g c =
    runs_committed c.args.network.now.places.items c.wire_all.new.places.items c.in_ok-wire_all.ensures.same _ _ _ _

pub returns-clause-ready : goal.returns-clause-ready
returns-clause-ready g c =
    breathes_committed c.args.network.now.places.items c.wire_all.new.places.items c.in_ok-wire_all.ensures.same _ _ _ _
    c.deref.result.now c.deref-2.result.now _ _ c.deref.ensures.value c.deref-2.ensures.value c.requires.stands
    c.in_ok-wire_all.ensures.wired
    c.in_ok-pulls.ensures c.in_ok-pushes.ensures
