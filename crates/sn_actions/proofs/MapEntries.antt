-- Entries in the order of their keys are those of the map that they make, and each is found at its key.
use Rattle.std.specs.FinMap as finmap
use Rattle.std.specs.FinMap.Entries.{below_all, by_order}
use Rattle.std.proofs.Common.{Bool, List, Some, [], ap, arith, false, get_or, length, refl, sym, true, ℕ, ◌&&◌, ◌<◌, ◌∙◌, ◌∷◌, ◌≡◌}
use Rattle.std.proofs.lemmas.List.Elements.{All-map}
use Rattle.std.proofs.lemmas.List.Folds.{list_any_none}
use Rattle.std.proofs.lemmas.Map.Entries.{lookup_from_place}
use Rattle.std.proofs.lemmas.Map.Keys.{IsDistinct-cons, sorted_head, sorted_tail}
use Rattle.std.proofs.lemmas.Option.{slice_get-get_or}
use Rattle.std.specs.Cmp.{IsTotalOrder, eq_by_cmp_equiv}
use Rattle.std.specs.List.{AllByRecursion, IsDistinct, list_any}
use Rattle.std.specs.List.Sorted.{IsStrictlySortedBy}
use Rattle.std.specs.Map.{keys_of}
use Rattle.std.specs.Ordering.{eq_by_cmp, is_eq, is_lt}
use Rattle.std.specs.Prelude.{T}
use Rattle.std.specs.declared.cmp.Ordering.{Ordering}
use Rattle.std.specs.declared.cmp.Ordering.TheVariants.{Equal, Greater, Less}
use Rattle.sn_actions.proofs.FiniteMaps.{find_lookup}

first : (a b : Bool) → T (a && b) → T a
first true b h = tt
first false b h = h

second : (a b : Bool) → T (a && b) → T b
second true b h = h
second false b h = absurd h

less_apart : (o : Ordering) → T (is_lt o) → is_eq o ≡ false
less_apart Less h = refl
less_apart Equal h = absurd h
less_apart Greater h = refl

no_entry : {A : Type 0} (es : List A) → length es ≡ 0 → es ≡ []
no_entry [] e = refl
no_entry (x ∷ es) e = absurd (omega arith)

module _ {K X : Type 0} (R : K → K → Ordering) where
  put_first : (k : K) (v : X) (es : List (K × X)) → AllByRecursion (λ y. R k y ≡ Less) (keys_of es) → finmap.put R k v es ≡ (k, v) ∷ es
  put_first k v [] h = refl
  put_first k v (e ∷ es) h = ap (λ r. by_order r ((k, v) ∷ e ∷ es) ((e.0, v) ∷ es) (e ∷ finmap.put R k v es)) h.0

  apart_below : (x : K) (es : List (K × X)) → T (below_all R x es) → AllByRecursion (λ y. eq_by_cmp R x y ≡ false) (keys_of es)
  apart_below x [] h = tt
  apart_below x (e ∷ es) h = (less_apart (R x e.0) (first (is_lt (R x e.0)) (below_all R x es) h), apart_below x es (second (is_lt (R x e.0)) (below_all R x es) h))

  distinct : (es : List (K × X)) → T (finmap.is_sorted R es) → IsDistinct (eq_by_cmp R) (keys_of es)
  unfolding IsDistinct
  distinct [] h = tt
  distinct (e ∷ es) h =
      IsDistinct-cons (eq_by_cmp R) e.0 (keys_of es) (apart_below e.0 es (first (below_all R e.0 es) (finmap.is_sorted R es) h)) (distinct es (second (below_all R e.0 es) (finmap.is_sorted R es) h))

module _ {K X : Type 0} {R : K → K → Ordering} (o : IsTotalOrder R) where
  pub entries_same : (es : List (K × X)) → IsStrictlySortedBy R (keys_of es) → finmap.entries (finmap.from_entries {R = R} es) ≡ es
  entries_same [] s = no_entry _ (sym (finmap.len-entries (finmap.empty {X = X} {R = R})) ∙ finmap.len-empty R X)
  entries_same (e ∷ es) s =
      finmap.entries-insert o (finmap.from_entries es) e.0 e.1
      ∙ ap (finmap.put R e.0 e.1) (entries_same es (sorted_tail R e.0 (keys_of es) s))
      ∙ put_first R e.0 e.1 es (sorted_head R e.0 (keys_of es) s)

  -- each entry of a map is found at its key
  pub found_entry : (m : finmap.FinMap R X) (k : ℕ) (d : K × X) → k < length (finmap.entries m) → finmap.get m (get_or (finmap.entries m) k d).0 ≡ Some (get_or (finmap.entries m) k d).1
  found_entry m k d within =
      let e = get_or (finmap.entries m) k d in
      finmap.get-entries m e.0
      ∙ find_lookup o (finmap.entries m) e.0
      ∙ lookup_from_place (eq_by_cmp_equiv o) (finmap.entries m) k e.0 e.1 (distinct R (finmap.entries m) (finmap.entries_sorted m)) (slice_get-get_or (finmap.entries m) k d within)

  -- a test that no value found passes is passed by no value
  pub no_value : (m : finmap.FinMap R X) (p : X → Bool) → ((q : K) (v : X) → finmap.get m q ≡ Some v → p v ≡ false) → list_any p (finmap.values m) ≡ false
  no_value m p h =
      list_any_none p (finmap.values m) (All-map (λ v. p v ≡ false) (λ e. e.1) (finmap.entries m) (λ k d within. h (get_or (finmap.entries m) k d).0 (get_or (finmap.entries m) k d).1 (found_entry m k d within)))
