-- The orders by places are those of the plain form.
use Rattle.std.specs.FinMap as finmap
use Rattle.std.proofs.Common.{◌≡◌, ℕ, zero, suc, Bool, true, false, cond, List, [], ◌∷◌, map, filter, slice_index_or, Option}
use Rattle.std.proofs.Common.{Some, None, IsSome, refl, sym, ap, subst, ◌∙◌, arith}
use Rattle.std.proofs.lemmas.Bool.{false≢true}
use Rattle.std.proofs.lemmas.List.Elements.{All-contains}
use Rattle.std.specs.BTreeMap.{is_at}
use Rattle.std.specs.List.{All, Contains}
use Rattle.std.specs.List.Sorted.{IsStrictlySortedBy}
use Rattle.std.specs.Map.{keys_of, lookup, values_of}
use Rattle.std.specs.Option.{option_map}
use Rattle.std.specs.Cmp.{tied_itself}
use Rattle.std.specs.Ordering.{is_eq}
use Rattle.sn_actions.proofs.FiniteMaps.{get_entries}
use Rattle.sn_actions.proofs.MapEntries.{entries_same}
use Rattle.sn_config.specs.declared.app_spec.AppSpec.{AppSpec}
use Rattle.sn_names.specs.LinkOrder.{name_cmp, name_cmp_total, port_cmp, port_cmp_total}
use Rattle.sn_names.specs.declared.link.LinkSpec.{LinkSpec}
use Rattle.sn_network.specs.Orders.{brings_in, bringing}
use Rattle.sn_network.specs.Places.{class_in}
use Rattle.sn_network.specs.declared.place.Place.{Place}

abbrev Apps : Type 0
Apps = List (List ℕ × AppSpec)

-- the app of a name among entries
abbrev entry_at : List ℕ → Apps → Option AppSpec
entry_at name apps = lookup (is_at (name_cmp name)) apps

found_first : (app : List ℕ × AppSpec) (apps : Apps) → IsSome (entry_at app.0 (app ∷ apps))
found_first app apps =
    let e : is_at (name_cmp app.0) app.0 ≡ true = ap is_eq (tied_itself name_cmp_total app.0) in
    subst (λ b. IsSome (cond b (Some app.1) (entry_at app.0 apps))) (sym e) refl

found_later : (app : List ℕ × AppSpec) (apps : Apps) (name : List ℕ) → IsSome (entry_at name apps)
    → IsSome (entry_at name (app ∷ apps))
found_later app apps name some = by (is_at (name_cmp name) app.0)
  where
    by : (b : Bool) → IsSome (cond b (Some app.1) (entry_at name apps))
    by true = refl
    by false = some

-- each name of an app is found, and so is each of those that bring packets in
all_found : (apps : Apps) → All (λ name. IsSome (entry_at name apps)) (keys_of apps)
all_found [] k d lt = absurd (omega (arith, lt))
all_found (app ∷ apps) zero d lt = found_first app apps
all_found (app ∷ apps) (suc k) d lt = found_later app apps _ (all_found apps k d (omega (arith, lt)))

all_bringing : (apps : Apps) → All (λ name. IsSome (entry_at name apps)) (bringing apps)
all_bringing [] = λ k d lt. absurd (omega (arith, lt))
all_bringing (app ∷ apps) = by (brings_in app.1.class) (all_bringing apps)
  where
    by : (b : Bool) → All (λ name. IsSome (entry_at name apps)) (bringing apps)
        → All (λ name. IsSome (entry_at name (app ∷ apps)))
        (map (λ a. a.0) (cond b (app ∷ filter (λ a. brings_in a.1.class) apps) (filter (λ a. brings_in a.1.class) apps)))
    by true h zero d lt = found_first app apps
    by true h (suc k) d lt = found_later app apps _ (h k d (omega (arith, lt)))
    by false h k d lt = found_later app apps _ (h k d lt)

-- an entry's app stands in the network
in_network : (places : List Place) (apps : Apps) (name : List ℕ)
    → ((n : List ℕ) → class_in places n ≡ option_map (λ spec. spec.class)
    (finmap.get (finmap.from_entries {R = name_cmp} apps) n))
    → IsSome (entry_at name apps) → IsSome (class_in places name)
in_network places apps name classes some =
    subst (λ o. IsSome o)
    (sym (classes name ∙ ap (option_map (λ (spec : AppSpec). spec.class)) (get_entries name_cmp_total apps name)))
    (has_class (entry_at name apps) some)
  where
    has_class : (o : Option AppSpec) → IsSome o → IsSome (option_map (λ (spec : AppSpec). spec.class) o)
    has_class None some = absurd (false≢true some)
    has_class (Some spec) some = refl

-- the apps of a plain form stand in the network
pub apps_stand : (places : List Place) (apps : Apps)
    → ((n : List ℕ) → class_in places n ≡ option_map (λ spec. spec.class)
    (finmap.get (finmap.from_entries {R = name_cmp} apps) n))
    → All (λ name. IsSome (class_in places name)) (keys_of apps)
apps_stand places apps classes k d lt =
    in_network places apps (slice_index_or (keys_of apps) k d) classes (all_found apps k d lt)

-- the names of an order stand in the network
module _ (places : List Place) (apps : Apps) (names seen : List (List ℕ)) (same : seen ≡ names)
    (classes : (n : List ℕ)
    → class_in places n ≡ option_map (λ spec. spec.class) (finmap.get (finmap.from_entries {R = name_cmp} apps) n)) where
  pub pulled_stand : (list : List (List ℕ)) → list ≡ bringing apps → All (Contains list) names
      → All (λ name. IsSome (class_in places name)) seen
  pulled_stand list is among =
      subst (λ ns. All (λ name. IsSome (class_in places name)) ns) (sym same) (λ k d lt.
      in_network places apps (slice_index_or names k d) classes
      (All-contains (λ name. IsSome (entry_at name apps)) list (slice_index_or names k d)
      (subst (λ ns. All (λ name. IsSome (entry_at name apps)) ns) (sym is) (all_bringing apps)) (among k d lt)))

  pub pushed_stand : (list : List (List ℕ)) → list ≡ keys_of apps → All (Contains list) names
      → All (λ name. IsSome (class_in places name)) seen
  pushed_stand list is among =
      subst (λ ns. All (λ name. IsSome (class_in places name)) ns) (sym same) (λ k d lt.
      in_network places apps (slice_index_or names k d) classes
      (All-contains (λ name. IsSome (entry_at name apps)) list (slice_index_or names k d)
      (subst (λ ns. All (λ name. IsSome (entry_at name apps)) ns) (sym is) (all_found apps)) (among k d lt)))

-- entries in order are those of their map
pub app_entries : (apps : Apps) → IsStrictlySortedBy name_cmp (keys_of apps)
    → finmap.entries (finmap.from_entries {R = name_cmp} apps) ≡ apps
app_entries apps sorted = entries_same name_cmp_total apps sorted

port_entries : (ports : List ((List ℕ × List ℕ) × LinkSpec)) → IsStrictlySortedBy port_cmp (keys_of ports)
    → finmap.entries (finmap.from_entries {R = port_cmp} ports) ≡ ports
port_entries ports sorted = entries_same port_cmp_total ports sorted

-- the values at ports in order, and the names of apps
pub port_values : (ports : List ((List ℕ × List ℕ) × LinkSpec)) → IsStrictlySortedBy port_cmp (keys_of ports)
    → values_of ports ≡ finmap.values (finmap.from_entries {R = port_cmp} ports)
port_values ports sorted = ap values_of (sym (port_entries ports sorted))

pub app_keys : (apps : Apps) → IsStrictlySortedBy name_cmp (keys_of apps)
    → keys_of apps ≡ finmap.keys (finmap.from_entries {R = name_cmp} apps)
app_keys apps sorted = ap keys_of (sym (app_entries apps sorted))
