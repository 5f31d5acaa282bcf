-- Before the first round no worker is spent.
use Rattle.std.proofs.Common.{◌≡◌, ◌∙◌, ◌||◌, ℕ, suc, Bool, false, List, [], ◌∷◌, refl, subst, ap}
use Rattle.std.specs.List.{list_any}
use Rattle.sn_scenario.specs.Scenarios.{ScenarioForm}
use Rattle.sn_seat.specs.Trays.{captures_of}
use Rattle.sn_crew.specs.Crews.{EachAt, IsUnderway, is_spent, rounds_in, spent_in, stand_of}
use Rattle.sn_crew.specs.Stands.{AfterRounds, Stand}
use Rattle.sn_crew.specs.declared.crew.Crew.{Crew}
use Rattle.sn_crew.specs.declared.place.Place.{Place}
use Rattle.sn_crew.proofs.Speaking.{list_any_map}

-- where a test fails for each, it fails for all
pub fails_all : {A : Type 0} (test : A → Bool) (xs : List A) → EachAt (λ n x. test x ≡ false) xs → list_any test xs ≡ false
fails_all test [] each = refl
fails_all test (x ∷ xs) each =
    ap (λ b. b || list_any test xs) (each 0 x refl) ∙ fails_all test xs (λ n y there. each (suc n) y there)

first_unspent : (form : ScenarioForm) (captures : List (List ℕ)) (worker : ℕ) (stand : Stand)
    → AfterRounds form captures worker 0 stand → is_spent stand ≡ false
unfolding AfterRounds
first_unspent form captures worker stand is = ap is_spent is

pub begins_unspent : (crew : Crew) → IsUnderway crew → rounds_in crew ≡ 0 → spent_in crew ≡ false
begins_unspent crew is none =
    let stand : Place → Stand = λ place. stand_of crew.shared place.slot in
    list_any_map is_spent stand crew.places.items
    ∙ fails_all (λ place. is_spent (stand place)) crew.places.items (λ n x there.
    first_unspent crew.scenario (captures_of crew.shared) n (stand x)
    (subst (λ r. AfterRounds crew.scenario (captures_of crew.shared) n r (stand x)) none (is.places n x there).slot.after))
