use Rattle.std.proofs.Common.{◌≡◌, ◌+◌, ◌<◌, ◌∙◌, get_or, Some, ap, arith, length, refl, sym}
use Rattle.std.specs.Prelude.{slice_get}
use Rattle.std.proofs.lemmas.Option.{slice_get_read}
use Rattle.sn_seat.specs.Trays.{captures_of}
use Rattle.sn_worker.specs.Ends.{left_of}
use Rattle.sn_worker.specs.SlotViews.{slot_desk, slot_life}
use Rattle.sn_crew.proofs.LeftOver.{left_at, left_behind, left_more, one_more}
use Rattle.sn_crew.proofs.crew.Crew.of_workers.Goals as goal

pub left-requires : goal.left-requires
left-requires c =
    let places = c.args.self.now.places.items in
    let i = c.loop-place.place-index in
    let value = c.deref-place-items.ensures.value in
    let within : i < length places = omega (arith, c.loop-place-test.true, ap length value) in
    let there : slice_get places i ≡ Some c.place-item.result
    = slice_get_read places (length places) i c.place-item.result refl within (rw (← value) c.place-item.is) in
    (c.requires.places i c.place-item.result there).slot.of.can

pub loop-place-preserved : goal.loop-place-preserved
loop-place-preserved c =
    let crew = c.args.self.now in
    let places = crew.places.items in
    let i = c.loop-place.place-index in
    let place = c.place-item.result in
    let value = c.deref-place-items.ensures.value in
    let within : i < length places = omega (arith, c.loop-place-test.true, ap length value) in
    let read : place ≡ get_or places i place = rw (← value) c.place-item.is in
    let there : slice_get places i ≡ Some place = slice_get_read places (length places) i place refl within read in
    let plan = (c.requires.places i place there).slot.of.plan in
    let caps = captures_of crew.shared in
    let is : c.left.result ≡ left_at crew.scenario crew.shared i place =
    c.left.ensures ∙ ap (λ p. left_of p (slot_life caps place.slot).life (slot_desk caps place.slot)) plan in
    record {
      whole = one_more c.loop-place.left c.left.result (left_behind crew.scenario crew.shared i places)
          (left_behind crew.scenario crew.shared (i + 1) places) (left_behind crew.scenario crew.shared 0 places)
          c.loop-place.invariant.whole
          (left_more crew.scenario crew.shared places i place within read
          ∙ ap (λ n. n + left_behind crew.scenario crew.shared (i + 1) places) (sym is));
      few = omega (arith, c.loop-place.invariant.few);
    }
