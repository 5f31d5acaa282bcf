use Rattle.std.proofs.Common.{sym, subst}
use Rattle.sn_crew.specs.Crews.{EachAt, PlaceReady}
use Rattle.sn_crew.proofs.Ready.{ready}
use Rattle.sn_crew.proofs.crew.Crew.round_in_order.Goals as goal

pub work_in_order-requires-clause-ready : goal.work_in_order-requires-clause-ready
work_in_order-requires-clause-ready g c κs outlives =
    let crew = c.args.self.now in
    subst (EachAt (PlaceReady crew.scenario crew.shared crew.rounds)) (sym c.deref_mut.ensures.value)
    (ready crew c.requires.underway c.requires.unspent)
