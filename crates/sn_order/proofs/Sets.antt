-- Sets of ranks, as lists that rise.
use Rattle.std.proofs.Common.{List, [], append-nil, ap, arith, cond, false, not, nat_eq, refl, subst, zero, suc, sym, true, Bool, ℕ, ◌||◌, ◌+◌, ◌++◌, ◌<◌, ◌∙◌, ◌∷◌, ◌≡◌, ◌≢◌}
use Rattle.std.proofs.lemmas.Bool.{eqb-true, eq-eqb}
use Rattle.std.proofs.lemmas.Bool.{true≢false}
use Rattle.std.proofs.lemmas.Cmp.{ranked}
use Rattle.std.proofs.lemmas.List.Elements.{filter-append}
use Rattle.std.proofs.lemmas.Map.Keys.{sorted_head, sorted_tail}
use Rattle.std.specs.BTreeMap.{is_at}
use Rattle.std.specs.BTreeSet.{insert_key}
use Rattle.std.specs.Cmp.{nat_cmp_is}
use Rattle.std.specs.List.{AllByRecursion, filter, list_any, range_with_len}
use Rattle.std.specs.List.Sorted.{IsStrictlySortedBy}
use Rattle.std.specs.Ordering.{is_eq, match_ordering, nat_cmp}
use Rattle.std.specs.Set.{remove_key}
use Rattle.std.specs.declared.cmp.Ordering.{Ordering}
use Rattle.std.specs.declared.cmp.Ordering.TheVariants.{Equal, Greater, Less}

-- an app's rank is below all of these, and above all of these
abbrev Above : ℕ → List ℕ → Type 0
Above app apps = AllByRecursion (λ other. app < other) apps

abbrev Below : ℕ → List ℕ → Type 0
Below app apps = AllByRecursion (λ other. other < app) apps

above_of : (app : ℕ) (apps : List ℕ) → AllByRecursion (λ other. nat_cmp app other ≡ Less) apps → Above app apps
above_of app [] h = tt
above_of app (x ∷ xs) h = (ranked app x Less (sym h.0), above_of app xs h.1)

above_head : (app : ℕ) (apps : List ℕ) → IsStrictlySortedBy nat_cmp (app ∷ apps) → Above app apps
above_head app apps s = above_of app apps (sorted_head nat_cmp app apps s)

above_more : (a b : ℕ) (apps : List ℕ) → a < b → Above b apps → Above a apps
above_more a b [] l h = tt
above_more a b (x ∷ xs) l h = (let m : b < x = h.0 in omega arith, above_more a b xs l h.1)

above_kept : (p : ℕ → Bool) (app : ℕ) (apps : List ℕ) → Above app apps → Above app (filter p apps)
above_kept p app [] h = tt
above_kept p app (x ∷ xs) h = by (p x) (above_kept p app xs h.1)
  where
    by : (b : Bool) → Above app (filter p xs) → Above app (cond b (x ∷ filter p xs) (filter p xs))
    by true more = (h.0, more)
    by false more = more

below_kept : (p : ℕ → Bool) (app : ℕ) (apps : List ℕ) → Below app apps → Below app (filter p apps)
below_kept p app [] h = tt
below_kept p app (x ∷ xs) h = by (p x) (below_kept p app xs h.1)
  where
    by : (b : Bool) → Below app (filter p xs) → Below app (cond b (x ∷ filter p xs) (filter p xs))
    by true more = (h.0, more)
    by false more = more

-- a rank above all goes behind them, and one below all before them
insert_last : (apps : List ℕ) (app : ℕ) → Below app apps → insert_key nat_cmp apps app ≡ apps ++ app ∷ []
insert_last [] app h = refl
insert_last (x ∷ xs) app h =
    sym (ap (λ o. match_ordering o (app ∷ x ∷ xs) (x ∷ xs) (x ∷ insert_key nat_cmp xs app)) (nat_cmp_is app x Greater h.0))
    ∙ ap (λ rest. x ∷ rest) (insert_last xs app h.1)

insert_first : (apps : List ℕ) (app : ℕ) → Above app apps → insert_key nat_cmp apps app ≡ app ∷ apps
insert_first [] app h = refl
insert_first (x ∷ xs) app h =
    sym (ap (λ o. match_ordering o (app ∷ x ∷ xs) (x ∷ xs) (x ∷ insert_key nat_cmp xs app)) (nat_cmp_is app x Less h.0))

-- the first ranks, and one more
below_range : (a n top : ℕ) → a + n < top + 1 → Below top (range_with_len a n)
below_range a zero top h = tt
below_range a (suc n) top h = (omega arith, below_range (a + 1) n top (omega arith))

range_grows : (a n : ℕ) → range_with_len a (suc n) ≡ range_with_len a n ++ (a + n) ∷ []
range_grows a zero = ap (λ k. k ∷ []) (let e : a ≡ a + 0 = omega arith in e)
range_grows a (suc n) =
    ap (λ rest. a ∷ rest) (range_grows (a + 1) n ∙ ap (λ k. range_with_len (a + 1) n ++ k ∷ []) (let e : a + 1 + n ≡ a + suc n = omega arith in e))

range_more : (n : ℕ) → range_with_len 0 (n + 1) ≡ range_with_len 0 n ++ n ∷ []
range_more n = ap (range_with_len 0) (let e : n + 1 ≡ suc n = omega arith in e) ∙ range_grows 0 n ∙ ap (λ k. range_with_len 0 n ++ k ∷ []) (let e : 0 + n ≡ n = omega arith in e)

pub all_more : (n : ℕ) → insert_key nat_cmp (range_with_len 0 n) n ≡ range_with_len 0 (n + 1)
all_more n = insert_last (range_with_len 0 n) n (below_range 0 n n (omega arith)) ∙ sym (range_more n)

-- those that pass a test among the first ranks, and one more
pub kept_more : (p : ℕ → Bool) (n : ℕ) → p n ≡ true
    → insert_key nat_cmp (filter p (range_with_len 0 n)) n ≡ filter p (range_with_len 0 (n + 1))
kept_more p n passes =
    insert_last (filter p (range_with_len 0 n)) n (below_kept p n (range_with_len 0 n) (below_range 0 n n (omega arith)))
    ∙ ap (λ b. filter p (range_with_len 0 n) ++ cond b (n ∷ []) []) (sym passes)
    ∙ sym (filter-append p (range_with_len 0 n) (n ∷ [])) ∙ ap (filter p) (sym (range_more n))

pub kept_same : (p : ℕ → Bool) (n : ℕ) → p n ≡ false
    → filter p (range_with_len 0 n) ≡ filter p (range_with_len 0 (n + 1))
kept_same p n fails =
    sym (append-nil (filter p (range_with_len 0 n)))
    ∙ ap (λ b. filter p (range_with_len 0 n) ++ cond b (n ∷ []) []) (sym fails)
    ∙ sym (filter-append p (range_with_len 0 n) (n ∷ [])) ∙ ap (filter p) (sym (range_more n))

-- without one of them
pub not_same : (a b : ℕ) → a ≢ b → nat_eq a b ≡ false
not_same a b h = by (nat_eq a b) refl
  where
    by : (c : Bool) → nat_eq a b ≡ c → nat_eq a b ≡ false
    by true e = absurd (h (eqb-true a b e))
    by false e = e

others_stay : (app : ℕ) (apps : List ℕ) → Above app apps → filter (λ other. not (nat_eq other app)) apps ≡ apps
others_stay app [] h = refl
others_stay app (x ∷ xs) h =
    ap (λ b. cond (not b) (x ∷ filter (λ other. not (nat_eq other app)) xs) (filter (λ other. not (nat_eq other app)) xs))
    (not_same x app (λ e. let l : app < x = h.0 in omega arith))
    ∙ ap (λ rest. x ∷ rest) (others_stay app xs h.1)

pub removed_is : (app : ℕ) (apps : List ℕ) → IsStrictlySortedBy nat_cmp apps
    → remove_key (is_at (nat_cmp app)) apps ≡ filter (λ other. not (nat_eq other app)) apps
removed_is app [] s = refl
removed_is app (x ∷ xs) s = by (nat_cmp app x) refl (removed_is app xs (sorted_tail nat_cmp x xs s))
  where
    left : Bool → List ℕ
    left b = cond (not b) (x ∷ filter (λ other. not (nat_eq other app)) xs) (filter (λ other. not (nat_eq other app)) xs)

    apart : x ≢ app → is_eq (nat_cmp app x) ≡ false → remove_key (is_at (nat_cmp app)) xs ≡ filter (λ other. not (nat_eq other app)) xs
        → remove_key (is_at (nat_cmp app)) (x ∷ xs) ≡ left (nat_eq x app)
    apart other off more =
        ap (λ b. cond b xs (x ∷ remove_key (is_at (nat_cmp app)) xs)) off ∙ ap (λ rest. x ∷ rest) more ∙ sym (ap left (not_same x app other))

    by : (o : Ordering) → o ≡ nat_cmp app x → remove_key (is_at (nat_cmp app)) xs ≡ filter (λ other. not (nat_eq other app)) xs
        → remove_key (is_at (nat_cmp app)) (x ∷ xs) ≡ left (nat_eq x app)
    by Less e more = apart (λ i. let l : app < x = ranked app x Less e in omega arith) (ap is_eq (sym e)) more
    by Equal e more =
        let i : app ≡ x = ranked app x Equal e in
        ap (λ o. cond (is_eq o) xs (x ∷ remove_key (is_at (nat_cmp app)) xs)) (sym e)
        ∙ sym (ap (λ a. filter (λ other. not (nat_eq other a)) xs) i ∙ others_stay x xs (above_head x xs s))
        ∙ sym (ap left (eq-eqb x app (sym i)))
    by Greater e more = apart (λ i. let l : x < app = ranked app x Greater e in omega arith) (ap is_eq (sym e)) more

-- ONE MORE PASSES: a set of those that pass a test, after one of them came to pass it
there_above : (app : ℕ) (apps : List ℕ) → Above app apps → list_any (is_at (nat_cmp app)) apps ≡ false
there_above app [] h = refl
there_above app (x ∷ xs) h =
    sym (ap (λ o. is_eq o || list_any (is_at (nat_cmp app)) xs) (nat_cmp_is app x Less h.0)) ∙ there_above app xs h.1

module _ (p q : ℕ → Bool) (app : ℕ) (same : (x : ℕ) → x ≢ app → p x ≡ q x) where
  others_kept : (apps : List ℕ) → Above app apps → filter p apps ≡ filter q apps
  others_kept [] h = refl
  others_kept (x ∷ xs) h =
      ap (λ b. cond b (x ∷ filter p xs) (filter p xs)) (same x (λ e. let l : app < x = h.0 in omega arith))
      ∙ ap (λ rest. cond (q x) (x ∷ rest) rest) (others_kept xs h.1)

  -- where it isn't there nothing changes
  pub rest_kept : (apps : List ℕ) → list_any (is_at (nat_cmp app)) apps ≡ false → filter p apps ≡ filter q apps
  rest_kept [] away = refl
  rest_kept (x ∷ xs) away = by (nat_cmp app x) refl (rest_kept xs)
    where
      apart : x ≢ app → filter p xs ≡ filter q xs → filter p (x ∷ xs) ≡ filter q (x ∷ xs)
      apart other more = ap (λ b. cond b (x ∷ filter p xs) (filter p xs)) (same x other) ∙ ap (λ rest. cond (q x) (x ∷ rest) rest) more

      by : (o : Ordering) → o ≡ nat_cmp app x → (list_any (is_at (nat_cmp app)) xs ≡ false → filter p xs ≡ filter q xs)
          → filter p (x ∷ xs) ≡ filter q (x ∷ xs)
      by Less e more =
          apart (λ i. let l : app < x = ranked app x Less e in omega arith)
          (more (ap (λ o. is_eq o || list_any (is_at (nat_cmp app)) xs) e ∙ away))
      by Equal e more = absurd (true≢false (ap (λ o. is_eq o || list_any (is_at (nat_cmp app)) xs) e ∙ away))
      by Greater e more =
          apart (λ i. let l : x < app = ranked app x Greater e in omega arith)
          (more (ap (λ o. is_eq o || list_any (is_at (nat_cmp app)) xs) e ∙ away))

  module _ (was : p app ≡ false) (is : q app ≡ true) where
    pub one_more_kept : (apps : List ℕ) → IsStrictlySortedBy nat_cmp apps → list_any (is_at (nat_cmp app)) apps ≡ true
        → insert_key nat_cmp (filter p apps) app ≡ filter q apps
    one_more_kept [] s there = absurd (true≢false (sym there))
    one_more_kept (x ∷ xs) s there = by (nat_cmp app x) refl (one_more_kept xs (sorted_tail nat_cmp x xs s))
      where
        if_p : Bool → List ℕ
        if_p b = cond b (x ∷ filter p xs) (filter p xs)

        if_q : Bool → List ℕ
        if_q b = cond b (x ∷ filter q xs) (filter q xs)

        behind : x < app → insert_key nat_cmp (filter p xs) app ≡ filter q xs → (b : Bool) → insert_key nat_cmp (if_p b) app ≡ if_q b
        behind l more true =
            sym (ap (λ o. match_ordering o (app ∷ x ∷ filter p xs) (x ∷ filter p xs) (x ∷ insert_key nat_cmp (filter p xs) app))
            (nat_cmp_is app x Greater l))
            ∙ ap (λ rest. x ∷ rest) more
        behind l more false = more

        by : (o : Ordering) → o ≡ nat_cmp app x
            → (list_any (is_at (nat_cmp app)) xs ≡ true → insert_key nat_cmp (filter p xs) app ≡ filter q xs)
            → insert_key nat_cmp (filter p (x ∷ xs)) app ≡ filter q (x ∷ xs)
        by Less e more =
            let l : app < x = ranked app x Less e in
            absurd (true≢false (sym there ∙ sym (ap (λ o. is_eq o || list_any (is_at (nat_cmp app)) xs) e)
            ∙ there_above app xs (above_more app x xs l (above_head x xs s))))
        by Equal e more =
            let i : app ≡ x = ranked app x Equal e in
            let above : Above app xs = subst (λ a. Above a xs) (sym i) (above_head x xs s) in
            ap (λ b. insert_key nat_cmp (if_p b) app) (ap p (sym i) ∙ was)
            ∙ insert_first (filter p xs) app (above_kept p app xs above)
            ∙ ap (λ a. a ∷ filter p xs) i ∙ ap (λ rest. x ∷ rest) (others_kept xs above)
            ∙ sym (ap if_q (ap q (sym i) ∙ is))
        by Greater e more =
            let l : x < app = ranked app x Greater e in
            behind l (more (ap (λ o. is_eq o || list_any (is_at (nat_cmp app)) xs) e ∙ there)) (p x)
            ∙ ap if_q (same x (λ i. omega (arith, l, i)))
