-- Placing names is placing their ranks.
use Rattle.std.proofs.Common.{All, append_assoc, length-append, ◌+◌, List, None, Option, Some, [], ap, cond, false, get_or, length, map, nat_eq, not, option_map, refl, slice_get, suc, sym, true, zero, Bool, ℕ, ◌&&◌, ◌||◌, ◌++◌, ◌<◌, ◌∙◌, ◌∷◌, ◌≡◌, if◌then◌else◌}
use Rattle.std.proofs.Math.Seq.{get_or-append_seam}
use Rattle.std.proofs.lemmas.Bool.{eqb-true, eq-eqb, true≢false}
use Rattle.std.proofs.lemmas.List.Elements.{All-filter, All-head, All-tail}
use Rattle.std.specs.List.{cons_option, filter, list_any, range_with_len}
use Rattle.std.specs.List.Sorted.{IsStrictlySortedBy}
use Rattle.sn_names.specs.LinkOrder.{name_cmp}
use Rattle.sn_names.specs.declared.link.LinkSpec.{LinkSpec}
use Rattle.sn_order.proofs.RankedNames.{IsRank, is_other_name, is_same_name, names_say, rank_in_is, ranks_differ, says}
use Rattle.sn_order.proofs.Waits.{next_of_within}
use Rattle.sn_order.specs.Order.{next_of, placing, same_name, then_more, waits, waits_by, without}
use Rattle.sn_order.specs.Ranks.{Edge, blocks, edge_between, edge_of, edges_of, name_at, rank_in, rank_waits}

-- a test of names, and one of ranks, that keep alike
kept_alike : (f : ℕ → List ℕ) (p : List ℕ → Bool) (q : ℕ → Bool) (ranks : List ℕ) → All (λ r. p (f r) ≡ q r) ranks
    → filter p (map f ranks) ≡ map f (filter q ranks)
kept_alike f p q [] h = refl
kept_alike f p q (r ∷ rs) h =
    ap (λ b. cond b (f r ∷ filter p (map f rs)) (filter p (map f rs))) (All-head (λ r. p (f r) ≡ q r) r rs h)
    ∙ by (q r) (kept_alike f p q rs (All-tail (λ r. p (f r) ≡ q r) r rs h))
  where
    by : (b : Bool) → filter p (map f rs) ≡ map f (filter q rs)
        → cond b (f r ∷ filter p (map f rs)) (filter p (map f rs)) ≡ map f (cond b (r ∷ filter q rs) (filter q rs))
    by true more = ap (λ xs. f r ∷ xs) more
    by false more = more

first_mapped : (f : ℕ → List ℕ) (xs ys : List ℕ) → slice_get (map f xs ++ map f ys) 0 ≡ option_map f (slice_get (xs ++ ys) 0)
first_mapped f [] [] = refl
first_mapped f [] (y ∷ ys) = refl
first_mapped f (x ∷ xs) ys = refl

module _ (names : List (List ℕ)) (rising : IsStrictlySortedBy name_cmp names) (links : List LinkSpec) where
  abbrev at : ℕ → List ℕ
  at r = name_at names r

  abbrev Within : List ℕ → Type 0
  Within ranks = All (λ r. r < length names) ranks

  same_at : (a b : ℕ) → a < length names → b < length names → same_name (at a) (at b) ≡ nat_eq a b
  same_at a b l m = by (nat_eq a b) refl
    where
      by : (c : Bool) → nat_eq a b ≡ c → same_name (at a) (at b) ≡ c
      by true e = is_same_name (at a) (at b) (ap at (eqb-true a b e))
      by false e = is_other_name (at a) (at b) (ranks_differ names rising a b l m (λ i. true≢false (sym (eq-eqb a b i) ∙ e)))

  -- whether one of these ranks is that of a name
  any_says : Option ℕ → List ℕ → Bool
  any_says None ranks = false
  any_says (Some rank) ranks = list_any (nat_eq rank) ranks

  any_named : (name : List ℕ) (o : Option ℕ) → IsRank names name o → (ranks : List ℕ) → Within ranks
      → list_any (same_name name) (map at ranks) ≡ any_says o ranks
  unfolding any_says says
  any_named name None h [] w = refl
  any_named name (Some rank) h [] w = refl
  any_named name None h (r ∷ rs) w =
      ap (λ b. b || list_any (same_name name) (map at rs)) (names_say names rising name r (All-head (λ r. r < length names) r rs w) None h)
      ∙ any_named name None h rs (All-tail (λ r. r < length names) r rs w)
  any_named name (Some rank) h (r ∷ rs) w =
      ap (λ b. b || list_any (same_name name) (map at rs)) (names_say names rising name r (All-head (λ r. r < length names) r rs w) (Some rank) h)
      ∙ ap (λ b. nat_eq rank r || b) (any_named name (Some rank) h rs (All-tail (λ r. r < length names) r rs w))

  -- a link blocks a name as its edge blocks the rank
  blocked_by : Option Edge → List ℕ → ℕ → Bool
  blocked_by None ranks r = false
  blocked_by (Some edge) ranks r = blocks ranks r edge

  blocks_alike : (from to : Option ℕ) (ranks : List ℕ) (r : ℕ)
      → (says names rising r to && (not (says names rising r from) && any_says from ranks)) ≡ blocked_by (edge_between from to) ranks r
  unfolding any_says says blocked_by
  blocks_alike None None ranks r = refl
  blocks_alike None (Some t) ranks r = by (nat_eq t r)
    where
      by : (b : Bool) → (b && false) ≡ false
      by true = refl
      by false = refl
  blocks_alike (Some f) None ranks r = refl
  blocks_alike (Some f) (Some t) ranks r = by (nat_eq f t) refl (nat_eq t r) refl
    where
      by : (a : Bool) → nat_eq f t ≡ a → (b : Bool) → nat_eq t r ≡ b
          → (b && (not (nat_eq f r) && list_any (nat_eq f) ranks)) ≡ blocked_by (if a then None else Some (f, t)) ranks r
      by true e true g = ap (λ c. not c && list_any (nat_eq f) ranks) (ap (λ c. nat_eq c r) (eqb-true f t e) ∙ g)
      by true e false g = refl
      by false e true g =
          ap (λ c. not c && list_any (nat_eq f) ranks) (sym (ap (λ c. nat_eq f c) (eqb-true t r g)) ∙ e)
          ∙ sym (ap (λ c. c && list_any (nat_eq f) ranks) g)
      by false e false g = sym (ap (λ c. c && list_any (nat_eq f) ranks) g)

  link_alike : (link : LinkSpec) (ranks : List ℕ) (r : ℕ) → Within ranks → r < length names
      → waits_by (map at ranks) (at r) link ≡ blocked_by (edge_of names link) ranks r
  link_alike link ranks r w l =
      ap (λ b. b && (not (same_name link.from (at r)) && list_any (same_name link.from) (map at ranks)))
      (names_say names rising link.to r l (rank_in names link.to) (rank_in_is names link.to))
      ∙ ap (λ b. says names rising r (rank_in names link.to) && (not b && list_any (same_name link.from) (map at ranks)))
      (names_say names rising link.from r l (rank_in names link.from) (rank_in_is names link.from))
      ∙ ap (λ b. says names rising r (rank_in names link.to) && (not (says names rising r (rank_in names link.from)) && b))
      (any_named link.from (rank_in names link.from) (rank_in_is names link.from) ranks w)
      ∙ blocks_alike (rank_in names link.from) (rank_in names link.to) ranks r

  edges_first : (o : Option Edge) (edges : List Edge) (ranks : List ℕ) (r : ℕ)
      → rank_waits (cons_option o edges) ranks r ≡ (blocked_by o ranks r || rank_waits edges ranks r)
  unfolding blocked_by
  edges_first None edges ranks r = refl
  edges_first (Some edge) edges ranks r = refl

  waits_alike : (some : List LinkSpec) (ranks : List ℕ) (r : ℕ) → Within ranks → r < length names
      → waits some (map at ranks) (at r) ≡ rank_waits (edges_of names some) ranks r
  waits_alike [] ranks r w l = refl
  waits_alike (link ∷ more) ranks r w l =
      ap (λ b. b || waits more (map at ranks) (at r)) (link_alike link ranks r w l)
      ∙ ap (λ b. blocked_by (edge_of names link) ranks r || b) (waits_alike more ranks r w l)
      ∙ sym (edges_first (edge_of names link) (edges_of names more) ranks r)

  abbrev edges : List Edge
  edges = edges_of names links

  next_alike : (ranks : List ℕ) → Within ranks
      → next_of same_name (waits links) (map at ranks) ≡ option_map at (next_of nat_eq (rank_waits edges) ranks)
  next_alike ranks w =
      ap (λ xs. slice_get (xs ++ map at ranks) 0)
      (kept_alike at (λ app. not (waits links (map at ranks) app)) (λ r. not (rank_waits edges ranks r)) ranks
      (λ k d l. ap not (waits_alike links ranks (get_or ranks k d) w (w k d l))))
      ∙ first_mapped at (filter (λ r. not (rank_waits edges ranks r)) ranks) ranks

  rest_alike : (ranks : List ℕ) (r : ℕ) → Within ranks → r < length names
      → without same_name (waits links) (at r) (map at ranks) ≡ map at (without nat_eq (rank_waits edges) r ranks)
  rest_alike ranks r w l =
      kept_alike at (λ other. not (same_name other (at r))) (λ other. not (nat_eq other r)) ranks
      (λ k d m. ap not (same_at (get_or ranks k d) r (w k d m) l))

  pub placed_alike : (n : ℕ) (ranks : List ℕ) → Within ranks
      → placing same_name (waits links) n (map at ranks) ≡ map at (placing nat_eq (rank_waits edges) n ranks)
  placed_alike zero ranks w = refl
  placed_alike (suc n) ranks w =
      ap (then_more same_name (waits links) (placing same_name (waits links) n) (map at ranks)) (next_alike ranks w)
      ∙ by (next_of nat_eq (rank_waits edges) ranks) (next_of_within (λ r. not (rank_waits edges ranks r)) ranks (length names) w) (placed_alike n)
    where
      by : (o : Option ℕ) → ((r : ℕ) → o ≡ Some r → r < length names)
          → ((ranks : List ℕ) → Within ranks → placing same_name (waits links) n (map at ranks) ≡ map at (placing nat_eq (rank_waits edges) n ranks))
          → then_more same_name (waits links) (placing same_name (waits links) n) (map at ranks) (option_map at o)
          ≡ map at (then_more nat_eq (rank_waits edges) (placing nat_eq (rank_waits edges) n) ranks o)
      by None in_range more = refl
      by (Some r) in_range more =
          ap (λ xs. at r ∷ xs)
          (ap (placing same_name (waits links) n) (rest_alike ranks r w (in_range r refl))
          ∙ more (without nat_eq (rank_waits edges) r ranks) (All-filter (λ other. not (nat_eq other r)) (λ r. r < length names) ranks w))

-- all names, by their ranks
named_from : (names before : List (List ℕ)) → map (λ r. get_or (before ++ names) r []) (range_with_len (length before) (length names)) ≡ names
named_from [] before = refl
named_from (x ∷ xs) before =
    ap (λ y. y ∷ map (λ r. get_or (before ++ x ∷ xs) r []) (range_with_len (length before + 1) (length xs))) (get_or-append_seam before x xs [])
    ∙ ap (λ rest. x ∷ rest)
    (ap (λ (all : List (List ℕ)). map (λ r. get_or all r []) (range_with_len (length before + 1) (length xs))) (sym (append_assoc before (x ∷ []) xs))
    ∙ ap (λ k. map (λ r. get_or ((before ++ x ∷ []) ++ xs) r []) (range_with_len k (length xs))) (sym (length-append before (x ∷ [])))
    ∙ named_from xs (before ++ x ∷ []))

pub all_named : (names : List (List ℕ)) → map (name_at names) (range_with_len 0 (length names)) ≡ names
all_named names = named_from names []
