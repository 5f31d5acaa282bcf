-- Finite maps of the entries of std's maps.
use Rattle.std.specs.FinMap as finmap
use Rattle.std.specs.FinSet as finset
use Rattle.std.proofs.Common.{Bool, List, Option, Some, None, [], ap, cond, false, not, refl, sym, true, ◌∙◌, ◌∷◌, ◌≡◌, ◌||◌, ◌&&◌}
use Rattle.std.specs.BTreeMap.{is_at}
use Rattle.std.specs.Cmp.{IsTotalOrder, eq_by_cmp_equiv}
use Rattle.std.specs.List.{list_any}
use Rattle.std.specs.Map.{lookup}
use Rattle.std.specs.Ordering.{eq_by_cmp, is_eq}
use Rattle.std.specs.declared.cmp.Ordering.TheVariants.{Equal, Greater, Less}
use Rattle.std.specs.Prelude.{filter}
use Rattle.std.specs.declared.cmp.Ordering.{Ordering}
use Rattle.std.proofs.lemmas.Map.Lookups.{CmpEqualImpliesEq}

pub equal_from : (o : Ordering) → is_eq o ≡ true → o ≡ Equal
equal_from Less h = cc
equal_from Equal h = refl
equal_from Greater h = cc

module _ {K X : Type 0} {R : K → K → Ordering} (o : IsTotalOrder R) where
  pub find_lookup : (es : List (K × X)) (q : K) → finmap.find R q es ≡ lookup (is_at (R q)) es
  find_lookup [] q = refl
  find_lookup (e ∷ es) q = ap (cond (is_at (R q) e.0) (Some e.1)) (find_lookup es q)

  -- what the map of entries has at a key
  pub get_entries : (es : List (K × X)) (q : K) → finmap.get (finmap.from_entries {R = R} es) q ≡ lookup (is_at (R q)) es
  get_entries es q = finmap.get-from_entries o es q ∙ find_lookup es q

  -- entries with one put among them make the map with it
  pub inserted : CmpEqualImpliesEq R → (es fs : List (K × X)) (k : K) (v : X) → ((q : K) → lookup (is_at (R q)) fs ≡ cond (is_at (R k) q) (Some v) (lookup (is_at (R q)) es)) → finmap.from_entries {R = R} fs ≡ finmap.insert (finmap.from_entries es) k v
  inserted exact es fs k v h = finmap.same_map o exact _ _ (λ q.
      get_entries fs q ∙ h q ∙ ap (λ b. cond b (Some v) (lookup (is_at (R q)) es)) ((eq_by_cmp_equiv o).symm k q)
      ∙ sym (finmap.get-insert o (finmap.from_entries es) k v q ∙ ap (cond (eq_by_cmp R q k) (Some v)) (get_entries es q)))

  -- entries without one make the map without it
  pub removed : CmpEqualImpliesEq R → (es fs : List (K × X)) (k : K) → ((q : K) → lookup (is_at (R q)) fs ≡ cond (is_at (R k) q) None (lookup (is_at (R q)) es)) → finmap.from_entries {R = R} fs ≡ finmap.remove (finmap.from_entries es) k
  removed exact es fs k h = finmap.same_map o exact _ _ (λ q.
      get_entries fs q ∙ h q ∙ ap (λ b. cond b None (lookup (is_at (R q)) es)) ((eq_by_cmp_equiv o).symm k q)
      ∙ sym (finmap.get-remove o (finmap.from_entries es) k q ∙ ap (cond (eq_by_cmp R q k) None) (get_entries es q)))

  pub retained : CmpEqualImpliesEq R → (es fs : List (K × X)) (p : K → Bool) → ((q : K) → lookup (is_at (R q)) fs ≡ cond (p q) (lookup (is_at (R q)) es) None) → finmap.from_entries {R = R} fs ≡ finmap.retain_keys (finmap.from_entries es) p
  retained exact es fs p h = finmap.same_map o exact _ _ (λ q.
      get_entries fs q ∙ h q
      ∙ sym (finmap.get-retain_keys (finmap.from_entries es) p q (λ x t. ap p (sym (exact q x t))) ∙ ap (λ v. cond (p q) v None) (get_entries es q)))

module _ {K : Type 0} {R : K → K → Ordering} (o : IsTotalOrder R) where
  pub set_inserted : CmpEqualImpliesEq R → (ks ls : List K) (k : K) → ((q : K) → list_any (is_at (R q)) ls ≡ cond (is_at (R k) q) true (list_any (is_at (R q)) ks)) → finset.from_list {R = R} ls ≡ finset.insert (finset.from_list ks) k
  set_inserted exact ks ls k h = finset.same_set o exact _ _ (λ q.
      finset.contains-from_list o ls q ∙ h q ∙ ap (λ b. cond b true (list_any (is_at (R q)) ks)) ((eq_by_cmp_equiv o).symm k q)
      ∙ or_cond (eq_by_cmp R q k) (list_any (is_at (R q)) ks)
      ∙ sym (finset.contains-insert o (finset.from_list ks) k q ∙ ap (λ b. eq_by_cmp R q k || b) (finset.contains-from_list o ks q)))
    where
      or_cond : (a b : Bool) → cond a true b ≡ (a || b)
      or_cond true b = refl
      or_cond false b = refl

  pub set_removed : CmpEqualImpliesEq R → (ks ls : List K) (k : K) → ((q : K) → list_any (is_at (R q)) ls ≡ cond (is_at (R k) q) false (list_any (is_at (R q)) ks)) → finset.from_list {R = R} ls ≡ finset.remove (finset.from_list ks) k
  set_removed exact ks ls k h = finset.same_set o exact _ _ (λ q.
      finset.contains-from_list o ls q ∙ h q ∙ ap (λ b. cond b false (list_any (is_at (R q)) ks)) ((eq_by_cmp_equiv o).symm k q)
      ∙ not_cond (eq_by_cmp R q k) (list_any (is_at (R q)) ks)
      ∙ sym (finset.contains-remove o (finset.from_list ks) k q ∙ ap (λ b. not (eq_by_cmp R q k) && b) (finset.contains-from_list o ks q)))
    where
      not_cond : (a b : Bool) → cond a false b ≡ (not a && b)
      not_cond true b = refl
      not_cond false b = refl

module _ {K X : Type 0} (R : K → K → Ordering) (exact : CmpEqualImpliesEq R) (p : K → Bool) where
  kept_by : (b c : Bool) (e : K × X) (rest kept : List (K × X)) (q : K) → is_at (R q) e.0 ≡ b → p e.0 ≡ c → lookup (is_at (R q)) kept ≡ cond (p q) (lookup (is_at (R q)) rest) None → lookup (is_at (R q)) (cond c (e ∷ kept) kept) ≡ cond (p q) (cond b (Some e.1) (lookup (is_at (R q)) rest)) None
  kept_by true true e rest kept q t s more =
      let same : q ≡ e.0 = exact q e.0 (equal_from (R q e.0) t) in
      ap (λ b. cond b (Some e.1) (lookup (is_at (R q)) kept)) t ∙ sym (ap (λ b. cond b (Some e.1) None) (ap p same ∙ s))
  kept_by true false e rest kept q t s more =
      let same : q ≡ e.0 = exact q e.0 (equal_from (R q e.0) t) in
      more ∙ ap (λ b. cond b (lookup (is_at (R q)) rest) None) (ap p same ∙ s) ∙ sym (ap (λ b. cond b (Some e.1) None) (ap p same ∙ s))
  kept_by false true e rest kept q t s more = ap (λ b. cond b (Some e.1) (lookup (is_at (R q)) kept)) t ∙ more
  kept_by false false e rest kept q t s more = more

  none_both : (b : Bool) → ◌≡◌ {A = Option X} None (cond b None None)
  none_both true = refl
  none_both false = refl

  -- what entries that pass a test have at a key
  pub lookup_filter : (es : List (K × X)) (q : K) → lookup (is_at (R q)) (filter (λ e. p e.0) es) ≡ cond (p q) (lookup (is_at (R q)) es) None
  lookup_filter [] q = none_both (p q)
  lookup_filter (e ∷ es) q = kept_by (is_at (R q) e.0) (p e.0) e es (filter (λ e. p e.0) es) q refl refl (lookup_filter es q)
