-- The places of a crew that is underway are ready for a round more where no worker is spent.
use Rattle.std.proofs.Common.{◌≡◌, ◌∙◌, ◌||◌, zero, suc, Bool, true, false, List, [], ◌∷◌, Some, refl, sym, subst}
use Rattle.std.specs.Prelude.{slice_get}
use Rattle.std.specs.List.{list_any}
use Rattle.sn_worker.specs.SlotViews.{slot_spent}
use Rattle.sn_crew.specs.Crews.{EachAt, IsUnderway, PlaceReady, is_spent, spent_in, stand_of}
use Rattle.sn_crew.specs.declared.crew.Crew.{Crew}
use Rattle.sn_crew.specs.declared.place.Place.{Place}
use Rattle.sn_crew.proofs.Speaking.{list_any_map}

neither : (a b : Bool) → (a || b) ≡ false → (a ≡ false) × (b ≡ false)
neither false b none = (refl, none)
neither true b none = absurd (let h : true ≡ false = none in cc)

-- where a test fails for all, it fails for each
pub fails_each : {A : Type 0} (test : A → Bool) (xs : List A) → list_any test xs ≡ false
    → EachAt (λ n x. test x ≡ false) xs
fails_each {A} test [] none n x there = let h : slice_get {X = A} [] n ≡ Some x = there in absurd cc
fails_each test (y ∷ ys) none zero x there =
    let e : Some y ≡ Some x = there in
    let same : y ≡ x = cc in
    subst (λ z. test z ≡ false) same (neither (test y) (list_any test ys) none).0
fails_each test (y ∷ ys) none (suc n) x there = fails_each test ys (neither (test y) (list_any test ys) none).1 n x there

spent_at : Place → Bool
spent_at place = slot_spent place.slot

pub ready : (crew : Crew) → IsUnderway crew → spent_in crew ≡ false
    → EachAt (PlaceReady crew.scenario crew.shared crew.rounds) crew.places.items
unfolding spent_at
ready crew is unspent n x there =
    let none : list_any spent_at crew.places.items ≡ false =
    sym (list_any_map is_spent (λ (place : Place). stand_of crew.shared place.slot) crew.places.items) ∙ unspent in
    record {
      slot = (is.places n x there).slot;
      unspent = fails_each spent_at crew.places.items none n x there;
      lacks_none = (is.places n x there).lacks_none;
    }
