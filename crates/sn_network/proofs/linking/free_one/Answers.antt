-- answers of src/linking.rt, free_one
use Rattle.std.proofs.Common.{Err, rules, subst, sym, ◌≡◌}
use Rattle.sn_app.specs.declared.halt.Halt.TheVariants.{OutOfMemory}
use Rattle.sn_wiring.specs.Links.{FitsRoster}
use Rattle.sn_network.proofs.GaveUp.{gave_up}
use Rattle.sn_network.proofs.Linked.{free_links, free_listed, free_stands, links_of_roster, roster_kept, runs_freeing}
use Rattle.sn_network.proofs.linking.free_one.Goals as goal

pub free_link-requires-clause-link : goal.free_link-requires-clause-link
free_link-requires-clause-link g c =
    free_listed c.args.links.now.slots _ c.args.link.now _ _ c.args.action.now c.in_ok-take_action.ensures.taken c.requires.links
    c.requires.action

pub free_link-requires-clause-here : goal.free_link-requires-clause-here
free_link-requires-clause-here g c =
    free_stands c.args.links.now.slots _ c.args.link.now _ _ c.args.action.now c.in_ok-take_action.ensures.taken c.requires.links
    c.requires.action

pub returns-in_err-take_action-clause-runs : goal.returns-in_err-take_action-clause-runs
returns-in_err-take_action-clause-runs g c =
    let e : c.from_residual.result ≡ Err OutOfMemory = search rules in rw e (gave_up _ _ _ _)

pub returns-clause-runs : goal.returns-clause-runs
returns-clause-runs g c = runs_freeing c.args.link.now _ _ _ _ _ _ _ _ _ c.free_link.ensures.runs

pub returns-clause-links : goal.returns-clause-links
returns-clause-links g c =
    links_of_roster (roster_kept _ _ _ _ _ _ c.free_link.ensures.runs)
    (free_links c.args.links.now.slots _ c.args.link.now _ _ c.args.action.now c.in_ok-take_action.ensures.taken c.requires.links
    c.requires.action
    c.free_link.new.links.slots c.free_link.ensures.lines c.free_link.ensures.fits)

pub returns-clause-fits : goal.returns-clause-fits
returns-clause-fits g c =
    subst (λ roster. FitsRoster roster c.free_link.new.links.slots)
    (sym (roster_kept _ _ _ _ _ _ c.free_link.ensures.runs)) (c.free_link.ensures.fits c.requires.links.fits)
