-- What the apps haven't passed, as they count it and as their states show it.
use Rattle.std.proofs.Common.{Bool, List, Some, ap, bytes_eq, false, length, slice_get, slice_index_or, subst, suc, sum_by, sym}
use Rattle.std.proofs.Common.{true, unwrap_or, zero, ◌<◌, ◌∙◌, ◌∷◌, ◌≡◌, ◌≤◌, ℕ, [], arith, refl, if◌then◌else◌, min, IsSome, ◌+◌}
use mathlib.Core.Path.{fun_ext}
use Rattle.std.specs.Option.{option_map}
use Rattle.sn_app.specs.Desk.{Tray}
use Rattle.sn_app.specs.World.{Used}
use Rattle.sn_kind.specs.Kinds.{kind_state}
use Rattle.sn_kind.specs.Unread.{CanCount, can_count, kind_unread, unread_shown}
use Rattle.sn_network.specs.Left.{CanCountAll, counted_in, unread_if}
use Rattle.std.specs.List.{All}
use Rattle.sn_network.specs.Places.{class_in, found, named_in, states_in}
use Rattle.sn_network.proofs.Cut.{Adds, adds_first, adds_more}
use Rattle.sn_network.specs.Standing.{CanRun, name_in}
use Rattle.sn_network.specs.declared.place.Place.{Place}
use Rattle.sn_network.proofs.Found.{found_at}
use Rattle.sn_network.proofs.Sums.{the_same}

pub get_or_here : (places : List Place) (at : ℕ) (d : Place) → at < length places
    → slice_get places at ≡ Some (slice_index_or places at d)
get_or_here [] at d within = absurd (omega (arith, within))
get_or_here (place ∷ places) zero d within = refl
get_or_here (place ∷ places) (suc at) d within = get_or_here places at d (omega (arith, within))

-- the app at a place counts what the app of its name counts
module _ (captures : List (List ℕ)) where
  counted_here : (places : List Place) (at : ℕ) (place : Place) (name : List ℕ) → slice_get places at ≡ Some place
      → place.name ≡ name
      → named_in name places ≤ 1 → kind_unread place.kind captures ≡ counted_in places captures name
  counted_here places at place name here own once =
      subst (λ n. kind_unread place.kind captures ≡ counted_in places captures n) own
      (sym (ap (λ o. unwrap_or o 0) (found_at (λ p. kind_unread p.kind captures) places at place here
      (subst (λ n. named_in n places ≤ 1) (sym own) once))))

  pub counted_there : (places : List Place) (at : ℕ) (d : Place) (name : List ℕ) → at < length places
      → name_in places at ≡ Some name
      → named_in name places ≤ 1 → kind_unread (slice_index_or places at d).kind captures ≡ counted_in places captures name
  counted_there places at d name within is once =
      let here = get_or_here places at d within in
      counted_here places at (slice_index_or places at d) name here
      (the_same (sym (ap (option_map (λ (place : Place). place.name)) here) ∙ is)) once

-- apps that can run can count
pub all_count : (places : List Place) (t : Tray) (captures : List (List ℕ)) → captures ≡ t.log.constants.captures
    → CanRun places t
    → CanCountAll places captures
all_count places t captures same ready i place here =
    subst (λ cs. CanCount place.kind cs) (sym same) (can_count place.kind t (ready i place here))

-- and count what their states show
shown_count : (places : List Place) (used : Used) (t : Tray) (name : List ℕ)
    → counted_in places t.log.constants.captures name ≡ unread_if (states_in places used t name)
unfolding found
shown_count [] used t name = refl
shown_count (place ∷ places) used t name = by (bytes_eq name place.name) (shown_count places used t name)
  where
    by : (b : Bool)
        → counted_in places t.log.constants.captures name ≡ unread_if (states_in places used t name)
        → unwrap_or (if b then Some (kind_unread place.kind t.log.constants.captures)
        else found (λ p. kind_unread p.kind t.log.constants.captures) places name) 0
        ≡ unread_if (if b then Some (kind_state place.kind used t) else found (λ p. kind_state p.kind used t) places name)
    by true more = unread_shown place.kind used t
    by false more = more

pub counted_shown : (seen places : List Place) → seen ≡ places → (used : Used) (t : Tray) (captures names : List (List ℕ))
    (m n : ℕ)
    → captures ≡ t.log.constants.captures → n ≡ min (sum_by (counted_in seen captures) names) m
    → n ≡ min (sum_by (λ name. unread_if (states_in places used t name)) names) m
counted_shown seen places whole used t captures names m n same is =
    is ∙ (ap (λ ps. min (sum_by (counted_in ps captures) names) m) whole
    ∙ (ap (λ cs. min (sum_by (counted_in places cs) names) m) same
    ∙ ap (λ (f : List ℕ → ℕ). min (sum_by f names) m) (fun_ext (shown_count places used t))))

-- the names so far are counted, and those to come are there
pub record Counts (places : List Place) (captures : List (List ℕ)) (m : ℕ) (all left : List (List ℕ)) (total : ℕ) : Type 0 where
  pub there : All (λ name. IsSome (class_in places name)) left
  pub adds : Adds m (counted_in places captures) all left total

module _ (places : List Place) (captures : List (List ℕ)) (m : ℕ) (all : List (List ℕ)) where
  pub counts_first : All (λ name. IsSome (class_in places name)) all → Counts places captures m all all 0
  counts_first there = record { there = there; adds = adds_first m (counted_in places captures) all }

  pub counts_there : (list left : List (List ℕ)) (name : List ℕ) (total : ℕ) → list ≡ name ∷ left
      → Counts places captures m all list total
      → IsSome (class_in places name)
  counts_there list left name total is h = All-first (subst (λ ns. All (λ n. IsSome (class_in places n)) ns) is h.there)
    where
      All-first : All (λ n. IsSome (class_in places n)) (name ∷ left) → IsSome (class_in places name)
      All-first there = there 0 name (omega arith)

  pub counts_more : (list left : List (List ℕ)) (name : List ℕ) (total later : ℕ) → list ≡ name ∷ left
      → Counts places captures m all list total → later ≡ min (total + counted_in places captures name) m
      → Counts places captures m all left later
  counts_more list left name total later is h added =
      by (subst (λ ns. Counts places captures m all ns total) is h)
    where
      by : Counts places captures m all (name ∷ left) total → Counts places captures m all left later
      by g = record {
        there = λ k d lt. g.there (suc k) d (omega (arith, lt));
        adds = adds_more m (counted_in places captures) all name left total later g.adds added;
      }
