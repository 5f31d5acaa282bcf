-- answers of src/linking.rt, open_one
use Rattle.std.proofs.Common.{Err, rules, ◌≡◌}
use Rattle.sn_app.specs.declared.halt.Halt.TheVariants.{OutOfMemory}
use Rattle.sn_network.proofs.GaveUp.{gave_up}
use Rattle.sn_network.proofs.Linked.{new_free, new_links, runs_opening}
use Rattle.sn_network.proofs.linking.open_one.Goals as goal

pub open_link-requires-clause-free : goal.open_link-requires-clause-free
open_link-requires-clause-free g c =
    new_free c.args.links.now.slots _ c.args.link.now _ _ c.args.action.now c.in_ok-take_action.ensures.taken c.requires.links
    c.requires.action c.requires.listed

pub returns-in_err-take_action-clause-runs : goal.returns-in_err-take_action-clause-runs
returns-in_err-take_action-clause-runs g c =
    let e : c.from_residual.result ≡ Err OutOfMemory = search rules in rw e (gave_up _ _ _ _)

pub returns-in_err-open_link-clause-runs : goal.returns-in_err-open_link-clause-runs
returns-in_err-open_link-clause-runs g c =
    let e : c.from_residual-in_err-open_link.result ≡ Err OutOfMemory = search rules in
    rw e (rw c.in_err-open_link.ensures.err (gave_up _ _ _ _))

pub returns-clause-runs : goal.returns-clause-runs
returns-clause-runs g c = runs_opening c.args.link.now _ _ _ _ _ _ _ _ _ (c.in_ok-open_link.ensures.runs _ _ _)

pub returns-clause-links : goal.returns-clause-links
returns-clause-links g c =
    new_links c.args.links.now.slots _ c.args.link.now _ _ c.args.action.now c.in_ok-take_action.ensures.taken c.requires.links
    c.requires.action c.requires.listed
    c.open_link.new.links.slots c.in_ok-open_link.ensures.lines c.in_ok-open_link.ensures.fits
