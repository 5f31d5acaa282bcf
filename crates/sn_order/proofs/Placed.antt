-- One app is placed: what holds of those that are left then.
use Rattle.std.proofs.Common.{All, Bool, List, Some, [], ap, arith, false, get_or, zero, nat_eq, not, refl, slice_get, slice_index, subst, suc, sym, true, ℕ, ◌+◌, ◌++◌, ◌<◌, ◌≤◌, ◌≡◌, ◌∙◌, ◌∷◌, ◌||◌, ◌≢◌, count_by}
use Rattle.std.proofs.lemmas.Bool.{eqb-true, eq-eqb, true≢false}
use Rattle.std.proofs.lemmas.Cmp.{ranked}
use Rattle.std.proofs.lemmas.List.Elements.{All-filter, All-head, All-map, All-tail, All-weaker}
use Rattle.std.proofs.lemmas.List.FromFn.{get_or-range_with_len, length-range_with_len}
use Rattle.std.proofs.lemmas.List.Kept.{IsStrictlySortedBy-filter}
use Rattle.std.specs.BTreeMap.{is_at}
use Rattle.std.specs.List.{filter, list_any, range_with_len}
use Rattle.std.specs.List.Sorted.{IsStrictlySortedBy}
use Rattle.std.specs.Ordering.{nat_cmp}
use Rattle.std.specs.Set.{remove_key}
use Rattle.std.specs.declared.cmp.Ordering.{Ordering}
use Rattle.std.specs.declared.cmp.Ordering.TheVariants.{Equal, Greater, Less}
use Rattle.sn_order.proofs.Sets.{removed_is}
use Rattle.sn_order.proofs.Waits.{any_same, free_by_count, free_without, next_there, waits_first, waits_less}
use Rattle.sn_order.specs.Order.{next_of, placing, then_more, without}
use Rattle.sn_order.specs.Ranks.{AreWithin, Edge, is_free, leads_to, rank_waits, targets_of, waits_for}

-- what is left, which of those is free, and their counts
module _ (edges : List Edge) (count : ℕ) (counts left free : List ℕ) (app : ℕ)
    (counted : (x : ℕ) → slice_index counts x ≡ waits_for edges left x)
    (free_is : free ≡ filter (is_free counts) left)
    (rising : IsStrictlySortedBy nat_cmp left)
    (within : All (λ x. x < count) left)
    (next : slice_get (free ++ left) 0 ≡ Some app) where
  there : list_any (nat_eq app) left ≡ true
  there = next_there (is_free counts) left app (ap (λ xs. slice_get (xs ++ left) 0) (sym free_is) ∙ next)

  -- it is the next one by the definition
  next_is : next_of nat_eq (rank_waits edges) left ≡ Some app
  next_is =
      ap (λ xs. slice_get (xs ++ left) 0)
      (sym (free_is ∙ free_by_count edges left counts (is_free counts) (λ x. ap (λ n. nat_eq n 0) (counted x))))
      ∙ next

  pub placed_next : (n : ℕ) → placing nat_eq (rank_waits edges) (suc n) left
      ≡ app ∷ placing nat_eq (rank_waits edges) n (without nat_eq (rank_waits edges) app left)
  placed_next n = ap (then_more nat_eq (rank_waits edges) (placing nat_eq (rank_waits edges) n) left) next_is

  abbrev rest : List ℕ
  rest = filter (λ other. not (nat_eq other app)) left

  -- it leaves what it should, by the set's own removals
  pub left_is : remove_key (is_at (nat_cmp app)) left ≡ rest
  left_is = removed_is app left rising

  pub free_left : remove_key (is_at (nat_cmp app)) free ≡ filter (is_free counts) rest
  free_left =
      ap (remove_key (is_at (nat_cmp app))) free_is
      ∙ removed_is app (filter (is_free counts) left) (IsStrictlySortedBy-filter nat_cmp (is_free counts) left rising)
      ∙ free_without (is_free counts) app left

  pub is_left : list_any (is_at (nat_cmp app)) left ≡ true
  is_left = any_same app left ∙ there

  pub within_count : app < count
  within_count = below_all left within there
    where
      below_all : (xs : List ℕ) → All (λ x. x < count) xs → list_any (nat_eq app) xs ≡ true → app < count
      below_all [] h t = absurd (true≢false (sym t))
      below_all (x ∷ xs) h t = by (nat_eq app x) refl (below_all xs (All-tail (λ x. x < count) x xs h))
        where
          by : (b : Bool) → nat_eq app x ≡ b → (list_any (nat_eq app) xs ≡ true → app < count) → app < count
          by true e more = subst (λ a. a < count) (sym (eqb-true app x e)) (All-head (λ x. x < count) x xs h)
          by false e more = more (ap (λ b. b || list_any (nat_eq app) xs) (sym e) ∙ t)

  pub rest_rising : IsStrictlySortedBy nat_cmp rest
  rest_rising = IsStrictlySortedBy-filter nat_cmp (λ other. not (nat_eq other app)) left rising

  pub rest_within : All (λ x. x < count) rest
  rest_within = All-filter (λ other. not (nat_eq other app)) (λ x. x < count) left within

  -- what is released was counted, and what is counted then is right
  pub enough : (x : ℕ) → count_by (nat_eq x) (targets_of edges app) ≤ slice_index counts x
  enough x = omega (arith, counted x, waits_less left app there edges x)

  pub counted_then : (later : List ℕ) → ((x : ℕ) → slice_index later x + count_by (nat_eq x) (targets_of edges app) ≡ slice_index counts x)
      → (x : ℕ) → slice_index later x ≡ waits_for edges rest x
  counted_then later h x = omega (arith, h x, counted x, waits_less left app there edges x)

-- the targets of an app are within
pub targets_within : (edges : List Edge) (count app : ℕ) → AreWithin count edges → All (λ x. x < count) (targets_of edges app)
targets_within edges count app h =
    All-map (λ x. x < count) (λ (edge : Edge). edge.1) (filter (λ (edge : Edge). nat_eq edge.0 app) edges)
    (All-weaker (λ (edge : Edge). (edge.0 < count) × (edge.1 < count)) (λ (edge : Edge). edge.1 < count) (λ edge t. t.1) _
    (All-filter (λ (edge : Edge). nat_eq edge.0 app) (λ (edge : Edge). (edge.0 < count) × (edge.1 < count)) edges h))

-- at first all are left
pub within_range : (count : ℕ) → All (λ x. x < count) (range_with_len 0 count)
within_range count k d l =
    let m : k < count = subst (λ n. k < n) (length-range_with_len 0 count) l in
    let e : get_or (range_with_len 0 count) k d ≡ 0 + k = get_or-range_with_len 0 count k d m in
    omega (arith, e, m)

above : (a x : ℕ) → a ≤ x → x ≢ a → a + 1 ≤ x
above a x l other = by (nat_cmp a x) refl
  where
    by : (o : Ordering) → o ≡ nat_cmp a x → a + 1 ≤ x
    by Less e = let m : a < x = ranked a x Less e in omega (arith, m)
    by Equal e = absurd (other (sym (ranked a x Equal e)))
    by Greater e = let m : x < a = ranked a x Greater e in omega (arith, l, m)

in_range : (a n x : ℕ) → a ≤ x → x < a + n → list_any (nat_eq x) (range_with_len a n) ≡ true
in_range a zero x l m = absurd (let e : ⊥ = omega (arith, l, m) in e)
in_range a (suc n) x l m = by (nat_eq x a) refl (λ more. in_range (a + 1) n x more (omega (arith, m)))
  where
    by : (b : Bool) → nat_eq x a ≡ b → (a + 1 ≤ x → list_any (nat_eq x) (range_with_len (a + 1) n) ≡ true)
        → (b || list_any (nat_eq x) (range_with_len (a + 1) n)) ≡ true
    by true e more = refl
    by false e more = more (above a x l (λ i. true≢false (sym (eq-eqb x a i) ∙ e)))

pub waits_at_first : (edges : List Edge) (count x : ℕ) → AreWithin count edges
    → count_by (leads_to x) edges ≡ waits_for edges (range_with_len 0 count) x
waits_at_first edges count x h =
    waits_first edges (range_with_len 0 count) x
    (λ k d l. in_range 0 count (get_or edges k d).0 (omega arith) (let m : (get_or edges k d).0 < count = (h k d l).0 in omega (arith, m)))
