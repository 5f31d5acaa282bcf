use Rattle.std.proofs.Common.{subst, sym}
use Rattle.sn_sharing.specs.Bonds.{AreBonded}
use Rattle.sn_sharing.specs.Closings.{AreLogs}
use Rattle.sn_sharing.specs.Columns.{pasts}
use Rattle.sn_crew.proofs.HaveClosed.{bonded, free, have_ended, out}
use Rattle.sn_crew.proofs.crew.Crew.close.Goals as goal

pub close_slots-requires-after_bounds : goal.close_slots-requires-after_bounds
close_slots-requires-after_bounds g c κs within = λ worker place there.
    let at = c.requires.underway.places worker place there in
    record { fits = at.slot.of.fits; can = at.slot.of.can }

pub close-requires-clause-bonds : goal.close-requires-clause-bonds
close-requires-clause-bonds g c =
    let crew = c.args.self in
    let seats = c.in_ok-seats.seats.items in
    subst (λ lanes. AreBonded lanes crew.shared seats) (sym c.lanes.ensures.same)
    (bonded crew.scenario crew.shared crew.rounds crew.places.items seats c.requires.underway.places c.in_ok-seats.ensures)

pub close-requires-clause-out : goal.close-requires-clause-out
close-requires-clause-out g c =
    let crew = c.args.self in
    out crew.scenario crew.shared crew.rounds crew.places.items c.in_ok-seats.seats.items c.requires.underway.places
    c.in_ok-seats.ensures

pub close-requires-clause-free : goal.close-requires-clause-free
close-requires-clause-free g c =
    let crew = c.args.self in
    free crew.scenario crew.shared crew.rounds crew.places.items c.in_ok-seats.seats.items c.requires.underway.places
    c.in_ok-seats.ensures

pub returns : goal.returns
returns g c =
    let crew = c.args.self in
    let closed = c.in_ok-closed.closed in
    let e = c.in_ok-closed.ensures in
    have_ended crew.scenario crew.shared crew.rounds crew.places.items c.in_ok-seats.seats.items c.requires.underway.places
    c.in_ok-seats.ensures closed e.journals c.requires.underway.shared e.counters e.files
    (subst (λ lanes. AreLogs (pasts closed.journals.items) lanes closed.lanes.items closed.group) c.lanes.ensures.same e.logs)
    e.fifo e.balance e.kept e.held c.left-left.result c.left-left.ensures
