-- A count that goes down by one, and which apps are free then.
use Rattle.std.proofs.Common.{List, ap, arith, cond, drop, false, length, nat_eq, refl, subst, suc, sym, true, Bool, ℕ, ◌+◌, ◌-◌, ◌<◌, ◌≤◌, ◌∙◌, ◌∷◌, ◌≡◌, ◌≢◌, count_by, slice_index, slice_set}
use Rattle.std.proofs.Math.Seq.{drop-cons}
use Rattle.std.proofs.lemmas.Bool.{eqb-true, eq-eqb, true≢false}
use Rattle.std.proofs.lemmas.List.{get_or-set_other, get_or-set_same}
use Rattle.std.proofs.lemmas.List.Elements.{filter_agree}
use Rattle.std.proofs.lemmas.List.Sums.{sum_by-cons}
use Rattle.std.specs.BTreeMap.{is_at}
use Rattle.std.specs.BTreeSet.{insert_key}
use Rattle.std.specs.List.{filter, list_any}
use Rattle.std.specs.List.Sorted.{IsStrictlySortedBy}
use Rattle.std.specs.Ordering.{nat_cmp}
use Rattle.sn_order.proofs.Sets.{not_same, one_more_kept, rest_kept}
use Rattle.sn_order.specs.Ranks.{is_free}

count_first : (x app : ℕ) (more : List ℕ) → count_by (nat_eq x) (app ∷ more) ≡ cond (nat_eq x app) 1 0 + count_by (nat_eq x) more
count_first x app more = sum_by-cons (λ y. cond (nat_eq x y) 1 0) app more

-- the first of those that are left to lower
pub left_first : (x i : ℕ) (targets : List ℕ) → i < length targets
    → count_by (nat_eq x) (drop i targets) ≡ cond (nat_eq x (slice_index targets i)) 1 0 + count_by (nat_eq x) (drop (i + 1) targets)
left_first x i targets l =
    ap (count_by (nat_eq x)) (drop-cons targets i 0 l
    ∙ ap (λ j. slice_index targets i ∷ drop j targets) (let e : suc i ≡ i + 1 = omega arith in e))
    ∙ count_first x (slice_index targets i) (drop (i + 1) targets)

abbrev one_if : Bool → ℕ
one_if b = cond b 1 0

pub one_counted : (counts targets : List ℕ) (i : ℕ) → i < length targets
    → ((x : ℕ) → count_by (nat_eq x) (drop i targets) ≤ slice_index counts x) → 1 ≤ slice_index counts (slice_index targets i)
one_counted counts targets i l enough =
    let app : ℕ = slice_index targets i in
    let e : one_if (nat_eq app app) ≡ 1 = ap one_if (eq-eqb app app refl) in
    let f : count_by (nat_eq app) (drop i targets) ≡ one_if (nat_eq app app) + count_by (nat_eq app) (drop (i + 1) targets) = left_first app i targets l in
    omega (arith, e, f, enough app)

differ : (x app : ℕ) → nat_eq x app ≡ false → x ≢ app
differ x app e i = true≢false (sym (eq-eqb x app i) ∙ e)

-- the counts after that of one app, which was n, went down
abbrev pub lowered : List ℕ → ℕ → ℕ → List ℕ
lowered counts app n = slice_set counts app (n - 1)

module _ (counts : List ℕ) (app n : ℕ) (within : app < length counts) (is : n ≡ slice_index counts app) where
  at_app : slice_index (lowered counts app n) app ≡ slice_index counts app - 1
  at_app = get_or-set_same counts app (n - 1) 0 within ∙ ap (λ k. k - 1) is

  elsewhere : (x : ℕ) → x ≢ app → slice_index (lowered counts app n) x ≡ slice_index counts x
  elsewhere x other = get_or-set_other counts app x (n - 1) 0 other

  module _ (some : 1 ≤ slice_index counts app) where
    -- what is lowered is one of those that are left to lower
    pub lowered_by : (x : ℕ) → slice_index (lowered counts app n) x + cond (nat_eq x app) 1 0 ≡ slice_index counts x
    lowered_by x = by (nat_eq x app) refl
      where
        by : (b : Bool) → nat_eq x app ≡ b → slice_index (lowered counts app n) x + cond b 1 0 ≡ slice_index counts x
        by true e =
            let i : x ≡ app = eqb-true x app e in
            subst (λ y. slice_index (lowered counts app n) y + 1 ≡ slice_index counts y) (sym i)
            (let a : slice_index (lowered counts app n) app ≡ slice_index counts app - 1 = at_app in omega (arith, a, some))
        by false e =
            let a : slice_index (lowered counts app n) x ≡ slice_index counts x = elsewhere x (λ i. differ x app e i) in omega (arith, a)

    blocked : is_free counts app ≡ false
    blocked = not_same (slice_index counts app) 0 (λ e. omega (arith, e, some))

    pub others : (x : ℕ) → x ≢ app → is_free counts x ≡ is_free (lowered counts app n) x
    others x other = ap (λ n. nat_eq n 0) (sym (elsewhere x other))

    -- it isn't the last that the app waits for
    pub still_blocked : (apps : List ℕ) → slice_index (lowered counts app n) app ≢ 0
        → filter (is_free counts) apps ≡ filter (is_free (lowered counts app n)) apps
    still_blocked apps more = filter_agree (is_free counts) (is_free (lowered counts app n)) same apps
      where
        by : (x : ℕ) (b : Bool) → nat_eq x app ≡ b → is_free counts x ≡ is_free (lowered counts app n) x
        by x true e =
            subst (λ y. is_free counts y ≡ is_free (lowered counts app n) y) (sym (eqb-true x app e))
            (blocked ∙ sym (not_same (slice_index (lowered counts app n) app) 0 more))
        by x false e = others x (λ i. differ x app e i)

        same : (x : ℕ) → is_free counts x ≡ is_free (lowered counts app n) x
        same x = by x (nat_eq x app) refl

    -- it is, and the app was placed before, or it is left
    pub placed_before : (apps : List ℕ) → list_any (is_at (nat_cmp app)) apps ≡ false
        → filter (is_free counts) apps ≡ filter (is_free (lowered counts app n)) apps
    placed_before apps away = rest_kept (is_free counts) (is_free (lowered counts app n)) app others apps away

    pub comes_free : (apps : List ℕ) → IsStrictlySortedBy nat_cmp apps → slice_index (lowered counts app n) app ≡ 0
        → list_any (is_at (nat_cmp app)) apps ≡ true
        → insert_key nat_cmp (filter (is_free counts) apps) app ≡ filter (is_free (lowered counts app n)) apps
    comes_free apps rising last there =
        one_more_kept (is_free counts) (is_free (lowered counts app n)) app others blocked (eq-eqb (slice_index (lowered counts app n) app) 0 last)
        apps rising there
