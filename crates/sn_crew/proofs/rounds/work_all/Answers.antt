use Rattle.std.proofs.Common.{◌∙◌, ◌<◌, arith, get_or, length, sym, subst}
use denote.Param.Send.{sendable}
use Rattle.std.proofs.lemmas.Option.{get_or_from_slice_get, slice_get-get_or, slice_get_within}
use Rattle.sn_crew.specs.Crews.{PlaceReady, PlaceWorked}
use Rattle.sn_crew.proofs.rounds.work_all.Goals as goal

pub for_each_mut-requires-clause-accepts : goal.for_each_mut-requires-clause-accepts
for_each_mut-requires-clause-accepts g c = λ lives outlive i p lt e. (
  (
    c.requires.few,
    subst (PlaceReady c.args.scenario.now c.args.shared.now c.args.rounds i) (sym e)
        (c.requires.ready i (get_or c.args.places.now i p.now) (slice_get-get_or c.args.places.now i p.now lt)),
  ),
  search sendable depth 20,
)

pub returns : goal.returns
returns g c = λ n x there.
    let lt : n < length c.args.places.now
    = omega (arith, c.for_each_mut.auto.s, slice_get_within c.for_each_mut.new.s n x there) in
    let at = (c.for_each_mut.ensures n x lt).1 in
    subst (PlaceWorked c.args.scenario.now c.args.shared.now c.args.rounds n)
    (at.left ∙ get_or_from_slice_get c.for_each_mut.new.s n x x there) at.call
