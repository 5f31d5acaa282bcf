use Rattle.std.proofs.Common.{◌≡◌, ◌∙◌, ◌∷◌, [], ap, arith, length, subst, sym}
use Rattle.std.proofs.lemmas.List.{length-append}
use Rattle.std.proofs.lemmas.Option.{slice_get_within}
use Rattle.sn_sharing.proofs.Lists.{each_more}
use Rattle.sn_sharing.proofs.Yielded.{all_yielded, next_there}
use Rattle.sn_sharing.specs.Opened.{IsOpenedSeat}
use Rattle.sn_crew.specs.Crews.{EachAt, PlaceUnmet}
use Rattle.sn_crew.proofs.OneMore.{none_there}
use Rattle.sn_crew.proofs.opening.places_of.Goals as goal

pub loop-seat-init : goal.loop-seat-init
loop-seat-init c = record {
  as_many = ap length c.new-places.ensures.items;
  each = subst (EachAt (PlaceUnmet c.args.scenario.now c.args.shared.now 0)) (sym c.new-places.ensures.items) (none_there _);
}

pub overflow_cast-worker : goal.overflow_cast-worker
overflow_cast-worker c =
    let from = c.into_iter-seat-iterator.ensures.into_iter_gives in
    let done = c.loop-seat.yielded in
    let at = next_there c.args.seats.items c.into_iter-seat-iterator.result c.loop-seat.seat-iterator c.next.new.self done
    c.next.result c.in-Some.seat from.0 (from.1 ∙ c.args.seats.ok.0) c.loop-seat.yielded_by c.in-Some.is c.next.ensures.steps in
    omega (
      arith,
      slice_get_within c.args.seats.items (length done) c.in-Some.seat at,
      c.requires.as_many,
      c.loop-seat.invariant.as_many,
      c.loop-seat.places.ok.0,
      c.settings.ensures.bounds.workers.1,
    )

pub place_of-requires : goal.place_of-requires
place_of-requires c =
    let from = c.into_iter-seat-iterator.ensures.into_iter_gives in
    let done = c.loop-seat.yielded in
    let at = next_there c.args.seats.items c.into_iter-seat-iterator.result c.loop-seat.seat-iterator c.next.new.self done
    c.next.result c.in-Some.seat from.0 (from.1 ∙ c.args.seats.ok.0) c.loop-seat.yielded_by c.in-Some.is c.next.ensures.steps in
    let is : length done ≡ c.len-worker.result = omega (arith, c.loop-seat.invariant.as_many, c.len-worker.ensures) in
    record {
      worker = omega (arith, slice_get_within c.args.seats.items (length done) c.in-Some.seat at, c.requires.as_many, is);
      opened = subst (λ n. IsOpenedSeat c.args.scenario.now c.args.shared.now n c.in-Some.seat) is
          (c.requires.each (length done) c.in-Some.seat at);
    }

pub loop-seat-preserved : goal.loop-seat-preserved
loop-seat-preserved c =
    let l = c.loop-seat in
    let place = c.in_ok-place_of.field-0 in
    let seat = c.in-Some.seat in
    let form = c.args.scenario.now in
    let shared = c.args.shared.now in
    let number : c.len-worker.result ≡ length l.places.items = omega (arith, c.len-worker.ensures, l.places.ok.0) in
    let more = ap length c.in_ok-push.ensures.items in
    let pushed = length-append l.places.items (place ∷ []) in
    record {
      as_many = omega (arith, more, pushed, length-append l.yielded (seat ∷ []), l.invariant.as_many);
      each = subst (EachAt (PlaceUnmet form shared 0)) (sym c.in_ok-push.ensures.items)
          (each_more (PlaceUnmet form shared 0) l.places.items place l.invariant.each
          (subst (λ n. PlaceUnmet form shared 0 n place) number c.in_ok-place_of.ensures));
    }

pub returns : goal.returns
returns c =
    let from = c.into_iter-seat-iterator.ensures.into_iter_gives in
    let all = all_yielded c.args.seats.items c.into_iter-seat-iterator.result c.loop-seat.seat-iterator c.next.new.self
    c.loop-seat.yielded c.next.result from.0 (from.1 ∙ c.args.seats.ok.0) c.loop-seat.yielded_by c.in-None.is
    c.next.ensures.steps in
    record {
      as_many = c.loop-seat.invariant.as_many ∙ (ap length all ∙ c.requires.as_many);
      each = c.loop-seat.invariant.each;
    }
