-- What is left, and for whom it waits, after one app is placed.
use Rattle.std.proofs.Common.{All, List, None, Option, Some, [], ap, arith, cond, false, get_or, length, map, nat_eq, not, refl, subst, sym, true, unwrap_or, Bool, ℕ, ◌&&◌, ◌||◌, ◌+◌, ◌++◌, ◌<◌, ◌∙◌, ◌∷◌, ◌≡◌, count_by, slice_get}
use Rattle.std.proofs.lemmas.Bool.{eqb-true, eq-eqb, true≢false}
use Rattle.std.proofs.lemmas.Cmp.{ranked}
use Rattle.std.proofs.lemmas.List.Elements.{All-filter, All-head, All-tail, All-weaker, All-nil, All-cons}
use Rattle.std.proofs.lemmas.List.Sums.{sum_by-cons}
use Rattle.std.proofs.lemmas.Map.Views.{any-filter_same}
use Rattle.std.specs.BTreeMap.{is_at}
use Rattle.std.specs.List.{filter, list_any}
use Rattle.std.specs.Ordering.{is_eq, nat_cmp}
use Rattle.std.specs.declared.cmp.Ordering.{Ordering}
use Rattle.std.specs.declared.cmp.Ordering.TheVariants.{Equal, Greater, Less}
use Rattle.sn_order.proofs.Counts.{one_if}
use Rattle.sn_order.proofs.Sets.{not_same}
use Rattle.sn_order.specs.Ranks.{Edge, blocks, leads_to, rank_waits, targets_of, waits_for}

-- tests that agree at each element keep and count alike
pub filter_on : (p q : ℕ → Bool) (xs : List ℕ) → All (λ x. p x ≡ q x) xs → filter p xs ≡ filter q xs
filter_on p q [] h = refl
filter_on p q (x ∷ xs) h =
    ap (λ b. cond b (x ∷ filter p xs) (filter p xs)) (All-head (λ x. p x ≡ q x) x xs h)
    ∙ ap (λ rest. cond (q x) (x ∷ rest) rest) (filter_on p q xs (All-tail (λ x. p x ≡ q x) x xs h))

counted : {X : Type 0} (p : X → Bool) (x : X) (xs : List X) → count_by p (x ∷ xs) ≡ one_if (p x) + count_by p xs
counted p x xs = sum_by-cons (λ y. cond (p y) 1 0) x xs

count_on : {X : Type 0} (p q : X → Bool) (xs : List X) → All (λ x. p x ≡ q x) xs → count_by p xs ≡ count_by q xs
count_on p q [] h = refl
count_on p q (x ∷ xs) h =
    counted p x xs ∙ ap (λ b. one_if b + count_by p xs) (All-head (λ x. p x ≡ q x) x xs h)
    ∙ ap (λ n. one_if (q x) + n) (count_on p q xs (All-tail (λ x. p x ≡ q x) x xs h)) ∙ sym (counted q x xs)

filter_swap : (p q : ℕ → Bool) (xs : List ℕ) → filter p (filter q xs) ≡ filter q (filter p xs)
filter_swap p q [] = refl
filter_swap p q (x ∷ xs) = by (p x) (q x) refl refl (filter_swap p q xs)
  where
    by : (a b : Bool) → p x ≡ a → q x ≡ b → filter p (filter q xs) ≡ filter q (filter p xs)
        → filter p (cond b (x ∷ filter q xs) (filter q xs)) ≡ filter q (cond a (x ∷ filter p xs) (filter p xs))
    by true true e f more =
        ap (λ c. cond c (x ∷ filter p (filter q xs)) (filter p (filter q xs))) e ∙ ap (λ rest. x ∷ rest) more
        ∙ sym (ap (λ c. cond c (x ∷ filter q (filter p xs)) (filter q (filter p xs))) f)
    by true false e f more = more ∙ sym (ap (λ c. cond c (x ∷ filter q (filter p xs)) (filter q (filter p xs))) f)
    by false true e f more = ap (λ c. cond c (x ∷ filter p (filter q xs)) (filter p (filter q xs))) e ∙ more
    by false false e f more = more

-- nothing passes where none is counted
none_counted : {X : Type 0} (p : X → Bool) (xs : List X) → not (list_any p xs) ≡ nat_eq (count_by p xs) 0
none_counted p [] = refl
none_counted p (x ∷ xs) = by (p x) refl (none_counted p xs)
  where
    by : (b : Bool) → p x ≡ b → not (list_any p xs) ≡ nat_eq (count_by p xs) 0 → not (b || list_any p xs) ≡ nat_eq (count_by p (x ∷ xs)) 0
    by true e more =
        let n : count_by p (x ∷ xs) ≡ 1 + count_by p xs = counted p x xs ∙ ap (λ c. one_if c + count_by p xs) e in
        sym (not_same (count_by p (x ∷ xs)) 0 (λ z. omega (arith, n, z)))
    by false e more =
        let n : count_by p (x ∷ xs) ≡ 0 + count_by p xs = counted p x xs ∙ ap (λ c. one_if c + count_by p xs) e in
        more ∙ ap (λ n. nat_eq n 0) (let m : count_by p xs ≡ count_by p (x ∷ xs) = omega (arith, n) in m)

pub is_same : (a b : ℕ) → is_at (nat_cmp a) b ≡ nat_eq a b
is_same a b = by (nat_cmp a b) refl
  where
    by : (o : Ordering) → o ≡ nat_cmp a b → is_at (nat_cmp a) b ≡ nat_eq a b
    by Less e = ap is_eq (sym e) ∙ sym (not_same a b (λ i. let l : a < b = ranked a b Less e in omega (arith, l, i)))
    by Equal e = ap is_eq (sym e) ∙ sym (eq-eqb a b (ranked a b Equal e))
    by Greater e = ap is_eq (sym e) ∙ sym (not_same a b (λ i. let l : b < a = ranked a b Greater e in omega (arith, l, i)))

pub any_same : (a : ℕ) (xs : List ℕ) → list_any (is_at (nat_cmp a)) xs ≡ list_any (nat_eq a) xs
any_same a [] = refl
any_same a (x ∷ xs) = ap (λ b. b || list_any (is_at (nat_cmp a)) xs) (is_same a x) ∙ ap (λ b. nat_eq a x || b) (any_same a xs)

-- the first of these is one that is left
is_itself : (a : ℕ) → nat_eq a a ≡ true
is_itself a = eq-eqb a a refl

or_true : (a : Bool) → (a || true) ≡ true
or_true true = refl
or_true false = refl

more_there : (x : ℕ) (xs ys : List ℕ) → All (λ y. list_any (nat_eq y) xs ≡ true) ys → All (λ y. list_any (nat_eq y) (x ∷ xs) ≡ true) ys
more_there x xs ys h =
    All-weaker (λ y. list_any (nat_eq y) xs ≡ true) (λ y. list_any (nat_eq y) (x ∷ xs) ≡ true) (λ y t. ap (λ b. nat_eq y x || b) t ∙ or_true (nat_eq y x)) ys h

pub all_there : (xs : List ℕ) → All (λ y. list_any (nat_eq y) xs ≡ true) xs
all_there [] = All-nil (λ y. list_any (nat_eq y) [] ≡ true)
all_there (x ∷ xs) =
    All-cons (λ y. list_any (nat_eq y) (x ∷ xs) ≡ true) x xs (ap (λ b. b || list_any (nat_eq x) xs) (is_itself x)) (more_there x xs xs (all_there xs))

first_there : (ys xs : List ℕ) (app : ℕ) → All (λ y. list_any (nat_eq y) xs ≡ true) ys → slice_get (ys ++ xs) 0 ≡ Some app → list_any (nat_eq app) xs ≡ true
first_there [] [] app h e = absurd (true≢false (ap (is_there true) (sym e)))
  where
    is_there : Bool → Option ℕ → Bool
    is_there b None = false
    is_there b (Some x) = b
first_there [] (x ∷ xs) app h e =
    ap (λ b. b || list_any (nat_eq app) xs) (eq-eqb app x (ap (λ o. unwrap_or o app) (sym e)))
first_there (y ∷ ys) xs app h e =
    subst (λ a. list_any (nat_eq a) xs ≡ true) (ap (λ o. unwrap_or o app) e) (All-head (λ y. list_any (nat_eq y) xs ≡ true) y ys h)

pub next_there : (p : ℕ → Bool) (xs : List ℕ) (app : ℕ) → slice_get (filter p xs ++ xs) 0 ≡ Some app → list_any (nat_eq app) xs ≡ true
next_there p xs app e =
    first_there (filter p xs) xs app (All-filter p (λ y. list_any (nat_eq y) xs ≡ true) xs (all_there xs)) e

-- the next one is within what they all are
first_within : (ys xs : List ℕ) (top app : ℕ) → All (λ x. x < top) ys → All (λ x. x < top) xs → slice_get (ys ++ xs) 0 ≡ Some app → app < top
first_within [] [] top app h k e = absurd (true≢false (sym (ap is_there e)))
  where
    is_there : Option ℕ → Bool
    is_there None = false
    is_there (Some x) = true
first_within [] (x ∷ xs) top app h k e = subst (λ a. a < top) (ap (λ o. unwrap_or o app) e) (All-head (λ x. x < top) x xs k)
first_within (y ∷ ys) xs top app h k e = subst (λ a. a < top) (ap (λ o. unwrap_or o app) e) (All-head (λ x. x < top) y ys h)

pub next_of_within : (p : ℕ → Bool) (xs : List ℕ) (top : ℕ) → All (λ x. x < top) xs → (app : ℕ) → slice_get (filter p xs ++ xs) 0 ≡ Some app → app < top
next_of_within p xs top h app e = first_within (filter p xs) xs top app (All-filter p (λ x. x < top) xs h) h e

pub nothing_left : (ys xs : List ℕ) → slice_get (ys ++ xs) 0 ≡ None → length xs ≡ 0
nothing_left [] [] e = refl
nothing_left [] (x ∷ xs) e = absurd (true≢false (ap is_there e))
  where
    is_there : Option ℕ → Bool
    is_there None = false
    is_there (Some x) = true
nothing_left (y ∷ ys) xs e = absurd (true≢false (ap is_there e))
  where
    is_there : Option ℕ → Bool
    is_there None = false
    is_there (Some x) = true

-- those that are free are those whose count is 0
pub free_by_count : (edges : List Edge) (left counts : List ℕ) (is_free : ℕ → Bool) → ((app : ℕ) → is_free app ≡ nat_eq (waits_for edges left app) 0)
    → filter is_free left ≡ filter (λ app. not (rank_waits edges left app)) left
free_by_count edges left counts is_free is =
    filter_on is_free (λ app. not (rank_waits edges left app)) left (λ k d l. is (get_or left k d) ∙ sym (none_counted (blocks left (get_or left k d)) edges))

-- what one waited for is what it waits for after another was placed, and the links from that one
module _ (left : List ℕ) (app : ℕ) (there : list_any (nat_eq app) left ≡ true) where
  abbrev rest : List ℕ
  rest = filter (λ other. not (nat_eq other app)) left

  still_there : (from : ℕ) → list_any (nat_eq from) rest ≡ (not (nat_eq from app) && list_any (nat_eq from) left)
  still_there from =
      any-filter_same (nat_eq from) (λ other. not (nat_eq other app)) (not (nat_eq from app))
      (λ other same. ap (λ a. not (nat_eq a app)) (sym (eqb-true from other same))) left

  turned : (a b : ℕ) → nat_eq a b ≡ nat_eq b a
  turned a b = by (nat_eq b a) refl
    where
      by : (c : Bool) → nat_eq b a ≡ c → nat_eq a b ≡ c
      by true e = eq-eqb a b (sym (eqb-true b a e))
      by false e = not_same a b (λ i. true≢false (sym (eq-eqb b a (sym i)) ∙ e))

  and_false : (b : Bool) → one_if (b && false) ≡ 0
  and_false true = refl
  and_false false = refl

  and_true : (b : Bool) → one_if (b && true) ≡ one_if b
  and_true true = refl
  and_true false = refl

  one_link : (x : ℕ) (edge : Edge) (c : Bool) → nat_eq edge.0 app ≡ c
      → one_if (blocks left x edge) ≡ one_if (blocks rest x edge) + one_if (c && nat_eq x edge.1)
  one_link x edge true e =
      let i : edge.0 ≡ app = eqb-true edge.0 app e in
      let a : one_if (blocks left x edge) ≡ one_if (nat_eq edge.1 x) =
      ap (λ b. one_if (nat_eq edge.1 x && b)) (ap (λ f. list_any (nat_eq f) left) i ∙ there) ∙ and_true (nat_eq edge.1 x) in
      let b : one_if (blocks rest x edge) ≡ 0 =
      ap (λ b. one_if (nat_eq edge.1 x && b)) (still_there edge.0 ∙ ap (λ c. not c && list_any (nat_eq edge.0) left) e) ∙ and_false (nat_eq edge.1 x) in
      let t : one_if (nat_eq x edge.1) ≡ one_if (nat_eq edge.1 x) = ap one_if (turned x edge.1) in
      omega (arith, a, b, t)
  one_link x edge false e =
      let b : one_if (blocks rest x edge) ≡ one_if (blocks left x edge) =
      ap (λ b. one_if (nat_eq edge.1 x && b)) (still_there edge.0 ∙ ap (λ c. not c && list_any (nat_eq edge.0) left) e) in
      omega (arith, b)

  target_first : (x : ℕ) (edge : Edge) (edges : List Edge) (c : Bool) → nat_eq edge.0 app ≡ c
      → count_by (nat_eq x) (targets_of (edge ∷ edges) app) ≡ one_if (c && nat_eq x edge.1) + count_by (nat_eq x) (targets_of edges app)
  target_first x edge edges true e =
      ap (λ c. count_by (nat_eq x) (map (λ edge. edge.1) (cond c (edge ∷ filter (λ edge. nat_eq edge.0 app) edges) (filter (λ edge. nat_eq edge.0 app) edges)))) e
      ∙ counted (nat_eq x) edge.1 (targets_of edges app)
  target_first x edge edges false e =
      let n : count_by (nat_eq x) (targets_of (edge ∷ edges) app) ≡ count_by (nat_eq x) (targets_of edges app) =
      ap (λ c. count_by (nat_eq x) (map (λ edge. edge.1) (cond c (edge ∷ filter (λ edge. nat_eq edge.0 app) edges) (filter (λ edge. nat_eq edge.0 app) edges)))) e in
      omega (arith, n)

  pub waits_less : (edges : List Edge) (x : ℕ) → waits_for edges left x ≡ waits_for edges rest x + count_by (nat_eq x) (targets_of edges app)
  waits_less [] x = refl
  waits_less (edge ∷ edges) x =
      let a = counted (blocks left x) edge edges in
      let b = counted (blocks rest x) edge edges in
      let c = one_link x edge (nat_eq edge.0 app) refl in
      let d = target_first x edge edges (nat_eq edge.0 app) refl in
      let more = waits_less edges x in
      omega (arith, a, b, c, d, more)

-- at first each link counts
pub waits_first : (edges : List Edge) (left : List ℕ) (x : ℕ) → All (λ (edge : Edge). list_any (nat_eq edge.0) left ≡ true) edges
    → count_by (leads_to x) edges ≡ waits_for edges left x
waits_first edges left x h =
    count_on (leads_to x) (blocks left x) edges (λ k d l. by (leads_to x (get_or edges k d)) (list_any (nat_eq (get_or edges k d).0) left) (h k d l))
  where
    by : (a b : Bool) → b ≡ true → a ≡ (a && b)
    by true b e = sym e
    by false b e = refl

-- where one was removed from those that are left and free
pub free_without : (is_free : ℕ → Bool) (app : ℕ) (left : List ℕ)
    → filter (λ other. not (nat_eq other app)) (filter is_free left) ≡ filter is_free (filter (λ other. not (nat_eq other app)) left)
free_without is_free app left = filter_swap (λ other. not (nat_eq other app)) is_free left
