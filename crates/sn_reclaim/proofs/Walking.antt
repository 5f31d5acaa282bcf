-- A walk over the held packets, each dealt with once.
use Rattle.std.proofs.Common.{◌≡◌, ◌≢◌, ◌∙◌, ◌<◌, ◌≤◌, ◌+◌, ◌-◌, ◌^◌, ℕ, suc, false, Option, None, Some, IsSome}
use Rattle.std.proofs.Common.{ap, arith, inl, inr, subst, sym}
use Rattle.std.proofs.lemmas.Bool.Decides.{eqb_tells, leb_tells}
use Rattle.std.specs.Prelude.{IfNone, IfSome, is_some}
use Rattle.sn_packet.specs.Hold.{Held, at_of, put_at}
use Rattle.sn_packet.proofs.Puts.{put_at_other, put_at_same}
use Rattle.sn_app.specs.World.{Used}
use Rattle.sn_reclaim.specs.Lefts.{Walks}

some_is : (x y : ℕ) → Some x ≡ Some y → x ≡ y
some_is x y e = cc

-- how much is left, at most
abbrev pub left_to : Option ℕ → ℕ
left_to None = 0
left_to (Some next) = suc (2 ^ 32 - next)

pub goes_down : (place : ℕ) (left later : Option ℕ) → left ≡ Some place → IfSome later (λ next. next < 2 ^ 32)
    → IfSome later (λ next. place < next) → left_to later < left_to left
goes_down place left later is small behind = subst (λ o. left_to later < left_to o) (sym is) (by later small behind)
  where
    by : (later : Option ℕ) → IfSome later (λ next. next < 2 ^ 32) → IfSome later (λ next. place < next)
        → left_to later < suc (2 ^ 32 - place)
    by None small behind = omega arith
    by (Some next) small behind = omega (arith, small, behind)

-- the beginning
module _ (hold : Held) (used : Used) (all : used ≡ at_of hold) where
  pub walk_starts : (left : Option ℕ) → IfSome left (λ place. IsSome (at_of hold place))
      → IfSome left (λ place. (other : ℕ) → 0 ≤ other → other < place → at_of hold other ≡ None)
      → IfNone left ((other : ℕ) → 0 ≤ other → at_of hold other ≡ None) → Walks left hold used
  walk_starts None held least none = record {
    past = λ place before. ap (λ u. u place) all ∙ none place (omega arith);
    rest = λ place left. absurd left;
    here = λ place is. absurd cc;
  }
  walk_starts (Some next) held least none = record {
    past = λ place before. ap (λ u. u place) all ∙ least place (omega arith) before;
    rest = λ place left. ap (λ u. u place) all;
    here = λ place is. subst (λ u. IsSome (u place)) (sym all) (subst (λ n. IsSome (at_of hold n)) (some_is next place is) held);
  }

-- the end
pub nothing_left : {hold : Held} {used : Used} (left : Option ℕ) → is_some left ≡ false → Walks left hold used
    → (place : ℕ) → used place ≡ None
nothing_left None is walks place = walks.past place tt
nothing_left (Some next) is walks place = absurd cc

-- one more: the packet at the next place goes, or is free
module _ (hold later : Held) (used after : Used) (place : ℕ) (walks : Walks (Some place) hold used)
    (changed : after ≡ put_at place None used)
    (others : (q : ℕ) → q ≢ place → at_of later q ≡ at_of hold q) where
  after_other : (q : ℕ) → q ≢ place → after q ≡ used q
  after_other q differs = ap (λ u. u q) changed ∙ put_at_other place None used q differs

  after_here : after place ≡ None
  after_here = ap (λ u. u place) changed ∙ put_at_same place None used

  behind_it : (q : ℕ) → place < q → after q ≡ at_of later q
  behind_it q lt =
      let apart : q ≢ place = λ e. omega (arith, lt, e) in
      after_other q apart ∙ (walks.rest q (omega (arith, lt)) ∙ sym (others q apart))

  dealt_with : (q : ℕ) → q ≤ place → after q ≡ None
  dealt_with q le = elim (eqb_tells q place) [
    | inl same ↦ ap after same.1 ∙ after_here
    | inr apart ↦ after_other q apart.1 ∙ walks.past q (let differs = apart.1 in omega (arith, le, differs))
  ]

  -- no held packet is behind it
  all_dealt : ((other : ℕ) → place < other → at_of later other ≡ None) → (q : ℕ) → after q ≡ None
  all_dealt none q = elim (leb_tells q place) [
    | inl le ↦ dealt_with q le.1
    | inr gt ↦ behind_it q gt.1 ∙ none q gt.1
  ]

  pub walk_on : (next : Option ℕ) → IfSome next (λ other. IsSome (at_of later other)) → IfSome next (λ other. place < other)
      → IfSome next (λ bound. (other : ℕ) → place < other → other < bound → at_of later other ≡ None)
      → IfNone next ((other : ℕ) → place < other → at_of later other ≡ None) → Walks next later after
  walk_on None held behind least none = record {
    past = λ q before. all_dealt none q;
    rest = λ q left. absurd left;
    here = λ q is. absurd cc;
  }
  walk_on (Some next) held behind least none = record {
    past = λ q before. elim (leb_tells q place) [
      | inl le ↦ dealt_with q le.1
      | inr gt ↦ behind_it q gt.1 ∙ least q gt.1 before
    ];
    rest = λ q left. behind_it q (omega (arith, behind, left));
    here = λ q is.
        subst (λ n. IsSome (after n)) (some_is next q is) (subst (λ o. IsSome o) (sym (behind_it next behind)) held);
  }

  -- the next held place from the one behind it on
  pub walk_from : (from : ℕ) → from ≡ place + 1 → (next : Option ℕ) → IfSome next (λ other. IsSome (at_of later other))
      → IfSome next (λ other. from ≤ other)
      → IfSome next (λ bound. (other : ℕ) → from ≤ other → other < bound → at_of later other ≡ None)
      → IfNone next ((other : ℕ) → from ≤ other → at_of later other ≡ None) → Walks next later after
  walk_from from is None held behind least none =
      walk_on None held behind least (λ other lt. none other (omega (arith, lt, is)))
  walk_from from is (Some next) held behind least none =
      walk_on (Some next) held (omega (arith, behind, is)) (λ other lt. least other (omega (arith, lt, is))) none
