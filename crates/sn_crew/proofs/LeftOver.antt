-- What the workers from a place on have left.
use Rattle.std.proofs.Common.{◌≡◌, ◌∙◌, ◌+◌, ◌<◌, ◌≤◌, ℕ, List, ◌∷◌, drop, get_or, length, map, sym, ap, arith}
use Rattle.std.proofs.lemmas.List.{drop_all, drop_more}
use Rattle.sn_scenario.specs.Plans.{plan_of}
use Rattle.sn_scenario.specs.Scenarios.{ScenarioForm}
use Rattle.sn_seat.specs.Trays.{captures_of}
use Rattle.sn_seat.specs.declared.shared.Shared.{Shared}
use Rattle.sn_worker.specs.Ends.{left_of}
use Rattle.sn_worker.specs.SlotViews.{slot_desk, slot_life}
use Rattle.sn_crew.specs.Crews.{stand_of}
use Rattle.sn_crew.specs.Endings.{left_from}
use Rattle.sn_crew.specs.Stands.{Stand}
use Rattle.sn_crew.specs.declared.place.Place.{Place}

module _ (form : ScenarioForm) (shared : Shared) where
  -- the stands of places, and what the workers from this one on have left
  abbrev pub stands_at : List Place → List Stand
  stands_at places = map (λ place. stand_of shared place.slot) places

  abbrev pub left_behind : ℕ → List Place → ℕ
  left_behind worker places = left_from form worker (stands_at (drop worker places))

  abbrev pub left_at : ℕ → Place → ℕ
  left_at worker place =
      left_of (plan_of worker form) (slot_life (captures_of shared) place.slot).life (slot_desk (captures_of shared) place.slot)

  -- one more of them
  pub left_more : (places : List Place) (worker : ℕ) (place : Place) → worker < length places
      → place ≡ get_or places worker place → left_behind worker places ≡ left_at worker place + left_behind (worker + 1) places
  left_more places worker place within read =
      ap (λ ps. left_from form worker (stands_at ps)) (drop_more places worker place within)
      ∙ ap (λ p. left_from form worker (stands_at (p ∷ drop (worker + 1) places))) (sym read)

  -- behind the last
  pub left_none : (places : List Place) (worker : ℕ) → length places ≤ worker → left_behind worker places ≡ 0
  left_none places worker over = ap (λ ps. left_from form worker (stands_at ps)) (drop_all worker places over)

-- a sum so far, with one more of what is behind it
pub one_more : (so_far one behind later whole : ℕ) → so_far + behind ≡ whole → behind ≡ one + later
    → so_far + one + later ≡ whole
one_more so_far one behind later whole is more = omega (arith, is, more)
