-- The ranks of names that rise.
use Rattle.std.proofs.Common.{List, None, Option, Err, Some, [], ap, arith, cond, false, get_or, length, nat_eq, refl, subst, suc, sym, true, zero, Bool, ℕ, ◌&&◌, ◌+◌, ◌<◌, ◌∙◌, ◌∷◌, ◌≡◌, ◌≢◌}
use Rattle.std.proofs.lemmas.Bool.{eqb-true, eq-eqb, true≢false}
use Rattle.std.proofs.lemmas.Cmp.{ranked, tied_itself}
use Rattle.std.proofs.lemmas.List.Sorted.{searchable_from_sorted}
use Rattle.std.proofs.lemmas.Map.Keys.{Less-from_sorted}
use Rattle.std.specs.Cmp.Lexicographic.{same_text}
use Rattle.std.specs.List.{AllWithin, position_from}
use Rattle.std.specs.List.Sorted.{IsBinarySearchResult, IsSortedBy, IsStrictlySortedBy}
use Rattle.std.specs.Ordering.{is_gt, is_lt, nat_cmp, ordering_reverse}
use Rattle.std.specs.declared.cmp.Ordering.{Ordering}
use Rattle.std.specs.declared.cmp.Ordering.TheVariants.{Equal, Greater, Less}
use Rattle.sn_names.specs.LinkOrder.{exact_names, name_cmp, name_cmp_total}
use Rattle.sn_order.specs.Order.{same_name}
use Rattle.sn_order.specs.Ranks.{name_at, rank_in}

-- a name is at this rank, or nowhere
pub IsRank : List (List ℕ) → List ℕ → Option ℕ → Type 0
IsRank names name None = (r : ℕ) → r < length names → same_name name (name_at names r) ≡ false
IsRank names name (Some rank) = (rank < length names) × (same_name name (name_at names rank) ≡ true)

same_itself : (name : List ℕ) → same_name name name ≡ true
same_itself [] = refl
same_itself (x ∷ xs) = ap (λ b. b && same_name xs xs) (eq-eqb x x refl) ∙ same_itself xs

pub is_same_name : (a b : List ℕ) → a ≡ b → same_name a b ≡ true
is_same_name a b e = subst (λ c. same_name a c ≡ true) e (same_itself a)

pub is_other_name : (a b : List ℕ) → a ≢ b → same_name a b ≡ false
is_other_name a b h = by (same_name a b) refl
  where
    by : (c : Bool) → same_name a b ≡ c → same_name a b ≡ false
    by true e = absurd (h (same_text a b (sym e)))
    by false e = e

-- the first of a list that passes a test, where the list starts at k
FirstAt : (List ℕ → Bool) → List (List ℕ) → ℕ → Option ℕ → Type 0
FirstAt p xs k None = (r : ℕ) → r < length xs → p (name_at xs r) ≡ false
FirstAt p xs k (Some q) = (i : ℕ) × (q ≡ k + i) × (i < length xs) × (p (name_at xs i) ≡ true)

later : (p : List ℕ → Bool) (x : List ℕ) (xs : List (List ℕ)) (k : ℕ) → p x ≡ false → (o : Option ℕ) → FirstAt p xs (k + 1) o → FirstAt p (x ∷ xs) k o
unfolding FirstAt
later p x xs k off None h = λ r l. by r l
  where
    by : (r : ℕ) → r < length (x ∷ xs) → p (name_at (x ∷ xs) r) ≡ false
    by zero l = off
    by (suc r) l = h r (omega (arith, l))
later p x xs k off (Some q) h = (suc h.0, (let e : q ≡ k + 1 + h.0 = h.1 in omega (arith, e)), (let l : h.0 < length xs = h.2 in omega (arith, l)), h.3)

first_at : (p : List ℕ → Bool) (xs : List (List ℕ)) (k : ℕ) → FirstAt p xs k (position_from p k xs)
unfolding FirstAt
first_at p [] k = λ r l. absurd (let z : ⊥ = omega (arith, l) in z)
first_at p (x ∷ xs) k = by (p x) refl (first_at p xs (k + 1))
  where
    by : (b : Bool) → p x ≡ b → FirstAt p xs (k + 1) (position_from p (k + 1) xs) → FirstAt p (x ∷ xs) k (cond b (Some k) (position_from p (k + 1) xs))
    by true e h = (0, omega arith, omega arith, e)
    by false e h = later p x xs k e (position_from p (k + 1) xs) h

ranked_by : (names : List (List ℕ)) (name : List ℕ) (o : Option ℕ) → FirstAt (same_name name) names 0 o → IsRank names name o
unfolding FirstAt IsRank
ranked_by names name None h = h
ranked_by names name (Some q) h =
    let e : h.0 ≡ q = (let f : q ≡ 0 + h.0 = h.1 in omega (arith, f)) in
    (subst (λ i. i < length names) e h.2, subst (λ i. same_name name (name_at names i) ≡ true) e h.3)

pub rank_in_is : (names : List (List ℕ)) (name : List ℕ) → IsRank names name (rank_in names name)
rank_in_is names name = ranked_by names name (rank_in names name) (first_at (same_name name) names 0)

module _ (names : List (List ℕ)) (rising : IsStrictlySortedBy name_cmp names) where
  below_differs : (i j : ℕ) → i < j → j < length names → name_at names i ≢ name_at names j
  below_differs i j l m e =
      true≢false (sym (ap is_lt (Less-from_sorted name_cmp names i j [] rising l m))
      ∙ ap (λ a. is_lt (name_cmp a (name_at names j))) e ∙ ap is_lt (tied_itself name_cmp_total (name_at names j)))

  pub ranks_differ : (i j : ℕ) → i < length names → j < length names → i ≢ j → name_at names i ≢ name_at names j
  ranks_differ i j l m other e = by (nat_cmp i j) refl
    where
      by : (o : Ordering) → o ≡ nat_cmp i j → ⊥
      by Less f = below_differs i j (ranked i j Less f) m e
      by Equal f = other (ranked i j Equal f)
      by Greater f = below_differs j i (ranked i j Greater f) l (sym e)

  same_rank : (i j : ℕ) → i < length names → j < length names → name_at names i ≡ name_at names j → i ≡ j
  same_rank i j l m e = by (nat_eq i j) refl
    where
      by : (b : Bool) → nat_eq i j ≡ b → i ≡ j
      by true f = eqb-true i j f
      by false f = absurd (ranks_differ i j l m (λ g. true≢false (sym (eq-eqb i j g) ∙ f)) e)

  -- there is one rank of a name
  pub one_rank : (name : List ℕ) (o other : Option ℕ) → IsRank names name o → IsRank names name other → o ≡ other
  unfolding IsRank
  one_rank name None None h k = refl
  one_rank name None (Some q) h k = absurd (true≢false (sym k.1 ∙ h q k.0))
  one_rank name (Some p) None h k = absurd (true≢false (sym h.1 ∙ k p h.0))
  one_rank name (Some p) (Some q) h k =
      ap Some (same_rank p q h.0 k.0 (sym (same_text name (name_at names p) (sym h.1)) ∙ same_text name (name_at names q) (sym k.1)))

  -- whether a rank is that of a name
  unfoldable pub says : ℕ → Option ℕ → Bool
  says r None = false
  says r (Some rank) = nat_eq rank r

  pub names_say : (name : List ℕ) (r : ℕ) → r < length names → (o : Option ℕ) → IsRank names name o → same_name name (name_at names r) ≡ says r o
  unfolding IsRank says
  names_say name r l None h = h r l
  names_say name r l (Some rank) h = by (nat_eq rank r) refl
    where
      is : name ≡ name_at names rank
      is = same_text name (name_at names rank) (sym h.1)

      by : (b : Bool) → nat_eq rank r ≡ b → same_name name (name_at names r) ≡ nat_eq rank r
      by true e = is_same_name name (name_at names r) (is ∙ ap (name_at names) (eqb-true rank r e)) ∙ sym e
      by false e =
          is_other_name name (name_at names r)
          (λ f. ranks_differ rank r h.0 l (λ g. true≢false (sym (eq-eqb rank r g) ∙ e)) (sym is ∙ f))
          ∙ sym e

  -- what a binary search finds
  rises : (name : List ℕ) → IsSortedBy (λ a b. is_lt (name_cmp a b)) names
  rises name k d a b =
      ap is_lt (name_cmp_total.antisymm (get_or names (k + 1) d) (get_or names k d)
      ∙ ap ordering_reverse (Less-from_sorted name_cmp names k (k + 1) d rising (omega arith) b))

  pub searched_rank : (name : List ℕ) (rank : ℕ) → rank < length names → ((d : List ℕ) → name_cmp (get_or names rank d) name ≡ Equal)
      → Some rank ≡ rank_in names name
  unfolding IsRank
  searched_rank name rank l h =
      one_rank name (Some rank) (rank_in names name) (l, is_same_name name (name_at names rank) (sym (exact_names (name_at names rank) name (h [])))) (rank_in_is names name)

  pub searched_none : (name : List ℕ) (i : ℕ) → IsBinarySearchResult (λ y. name_cmp y name) names (Err i) → None ≡ rank_in names name
  unfolding IsRank
  searched_none name i h =
      one_rank name None (rank_in names name) (λ r l. is_other_name name (name_at names r) (λ e. off r l (sym e))) (rank_in_is names name)
    where
      parted : AllWithin (λ y. name_cmp y name ≡ Less) names 0 i × AllWithin (λ y. name_cmp y name ≡ Greater) names i (length names)
      parted = h (searchable_from_sorted name_cmp_total (λ y. y) names name (rises name))

      tied : (r : ℕ) → name_at names r ≡ name → name_cmp (name_at names r) name ≡ Equal
      tied r e = ap (λ a. name_cmp a name) e ∙ tied_itself name_cmp_total name

      by : (r : ℕ) → r < length names → name_at names r ≡ name → (o : Ordering) → o ≡ nat_cmp r i → ⊥
      by r l e Less f = true≢false (sym (ap is_lt (parted.0 r [] (omega arith) (ranked r i Less f))) ∙ ap is_lt (tied r e))
      by r l e Equal f = true≢false (sym (ap is_gt (parted.1 r [] (let g : r ≡ i = ranked r i Equal f in omega (arith, g)) l)) ∙ ap is_gt (tied r e))
      by r l e Greater f = true≢false (sym (ap is_gt (parted.1 r [] (let g : i < r = ranked r i Greater f in omega (arith, g)) l)) ∙ ap is_gt (tied r e))

      off : (r : ℕ) → r < length names → name_at names r ≡ name → ⊥
      off r l e = by r l e (nat_cmp r i) refl
