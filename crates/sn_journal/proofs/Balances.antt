-- What is held after an entry, and what it weighs.
use Rattle.std.proofs.Common.{Bool, List, [], Option, None, Some, true, false, ℕ, ◌&&◌, ◌||◌, ◌+◌, ◌++◌, ◌∷◌, ◌≡◌, ◌≤◌, ◌↔◌, ◌∙◌, ap, arith, refl, nat_eq, if◌then◌else◌}
use Rattle.std.proofs.lemmas.Bool.{and_parts, and_from, eqb-true, true≢false, false≢true}
use Rattle.std.proofs.lemmas.List.Sums.{sum_by-cons, sum_by_push}
use Rattle.sn_journal.specs.declared.entry.Entry.{Entry}
use Rattle.sn_journal.specs.HandOvers.{PacketName, given_packet, kept_packet, received_packet, released_packet}
use Rattle.sn_journal.specs.Holding.{same_packet, is_among, without, with_received, without_released, held_after, held_from, is_held, is_raised, speaks_of_held, all_speak_of_held, weight_of, weight, one_at, gains, losses}

-- what is held after two lists of entries is held after the second, from what is held after the first
pub held_from-append : (held : List PacketName) (before after : List Entry)
    → held_from held (before ++ after) ≡ held_from (held_from held before) after
held_from-append held [] after = refl
held_from-append held (first ∷ before) after = held_from-append (held_after held first) before after

-- entries that speak of what is held, and behind them more of them
pub speak-append : (held : List PacketName) (before after : List Entry)
    → all_speak_of_held held before ≡ true → all_speak_of_held (held_from held before) after ≡ true
    → all_speak_of_held held (before ++ after) ≡ true
speak-append held [] after these those = those
speak-append held (first ∷ before) after these those =
    let parts = and_parts (speaks_of_held held first) (all_speak_of_held (held_after held first) before) these in
    and_from _ _ parts.0 (speak-append (held_after held first) before after parts.1 those)

-- both parts of such entries are such
pub speak-parts : (held : List PacketName) (before after : List Entry) → all_speak_of_held held (before ++ after) ≡ true
    → (all_speak_of_held held before ≡ true) × (all_speak_of_held (held_from held before) after ≡ true)
speak-parts held [] after all = (refl, all)
speak-parts held (first ∷ before) after all =
    let parts = and_parts (speaks_of_held held first) (all_speak_of_held (held_after held first) (before ++ after)) all in
    let more = speak-parts (held_after held first) before after parts.1 in
    (and_from _ _ parts.0 more.0, more.1)

-- equal packets weigh the same
same_weight : (f : ℕ → ℕ → ℕ) (x y : PacketName) → same_packet x y ≡ true → f x.0 x.1 ≡ f y.0 y.1
same_weight f x y same =
    let parts = and_parts (nat_eq x.0 y.0) (nat_eq x.1 y.1) same in
    ap (λ n. f n x.1) (eqb-true x.0 y.0 parts.0) ∙ ap (f y.0) (eqb-true x.1 y.1 parts.1)

-- one packet more in front, found there or not
without_first : (f : ℕ → ℕ → ℕ) (x y : PacketName) (held : List PacketName) (found : Bool)
    → (found ≡ true → f x.0 x.1 ≡ f y.0 y.1)
    → (found ≡ false → weight f held ≡ f x.0 x.1 + weight f (without x held))
    → weight f (y ∷ held) ≡ f x.0 x.1 + weight f (if found then held else y ∷ without x held)
without_first f x y held true same rest = omega (arith, same refl, sum_by-cons (λ z. f z.0 z.1) y held)
without_first f x y held false same rest =
    omega (arith, rest refl, sum_by-cons (λ z. f z.0 z.1) y held, sum_by-cons (λ z. f z.0 z.1) y (without x held))

-- where the first isn't the packet, it stands behind it
stands_behind : (found there : Bool) → (found || there) ≡ true → found ≡ false → there ≡ true
stands_behind true there either missing = elim (true≢false missing) [ ]
stands_behind false there either missing = either

-- what is taken out weighed its own
pub weight-without : (f : ℕ → ℕ → ℕ) (x : PacketName) (held : List PacketName)
    → is_among x held ≡ true → weight f held ≡ f x.0 x.1 + weight f (without x held)
weight-without f x [] there = elim (false≢true there) [ ]
weight-without f x (y ∷ held) there =
    without_first f x y held (same_packet x y) (same_weight f x y)
    (λ missing. weight-without f x held (stands_behind (same_packet x y) (is_among x held) there missing))

-- found now or behind, it is found now or behind among more
still_among : (found before after : Bool) → (before ≡ true → after ≡ true) → (found || before) ≡ true → (found || after) ≡ true
still_among true before after more either = refl
still_among false before after more either = more either

-- what stands among some stands among more
among_more : (x : PacketName) (held : List PacketName) (y : PacketName)
    → is_among x held ≡ true → is_among x (held ++ y ∷ []) ≡ true
among_more x [] y there = elim (false≢true there) [ ]
among_more x (z ∷ held) y there =
    still_among (same_packet x z) (is_among x held) (is_among x (held ++ y ∷ [])) (among_more x held y) there

-- one entry changes what is held by what it receives and releases
entry_weighs : (f : ℕ → ℕ → ℕ) (held : List PacketName) (received released : Option PacketName)
    → is_held released held ≡ true
    → weight f held + weight_of f received
    ≡ weight_of f released + weight f (without_released released (with_received received held))
entry_weighs f held None None there = omega arith
entry_weighs f held (Some x) None there = omega (arith, sum_by_push (λ z. f z.0 z.1) held x)
entry_weighs f held None (Some y) there = omega (arith, weight-without f y held there)
entry_weighs f held (Some x) (Some y) there =
    omega (arith, sum_by_push (λ z. f z.0 z.1) held x, weight-without f y (held ++ x ∷ []) (among_more y held x there))

-- what was held and received is what was given and is held
pub balance : (f : ℕ → ℕ → ℕ) (held : List PacketName) (entries : List Entry) → all_speak_of_held held entries ≡ true
    → weight f held + gains f entries ≡ losses f entries + weight f (held_from held entries)
balance f held [] all = omega arith
balance f held (entry ∷ entries) all =
    let parts = and_parts (speaks_of_held held entry) (all_speak_of_held (held_after held entry) entries) all in
    let released = is_held (released_packet entry) held in
    let kept = is_held (kept_packet entry) held in
    let raised = and_parts (is_raised (given_packet entry)) (released && kept) parts.0 in
    let there = and_parts released kept raised.1 in
    omega (
      arith,
      balance f (held_after held entry) entries parts.1,
      entry_weighs f held (received_packet entry) (released_packet entry) there.0,
      sum_by-cons (λ e. weight_of f (received_packet e)) entry entries,
      sum_by-cons (λ e. weight_of f (released_packet e)) entry entries,
    )

-- one packet more in front, counted or not
counted_first : (x y : PacketName) (held : List PacketName) (found : Bool) → one_at x y.0 y.1 ≡ (if found then 1 else 0)
    → ((is_among x held ≡ true) ↔ (1 ≤ weight (one_at x) held))
    → ((found || is_among x held) ≡ true) ↔ (1 ≤ weight (one_at x) (y ∷ held))
counted_first x y held true one rest = (λ _. omega (arith, one, sum_by-cons (λ z. one_at x z.0 z.1) y held), λ _. refl)
counted_first x y held false one rest = (
  λ there. omega (arith, one, rest.0 there, sum_by-cons (λ z. one_at x z.0 z.1) y held),
  λ counted. rest.1 (omega (arith, one, counted, sum_by-cons (λ z. one_at x z.0 z.1) y held)),
)

pub held_by_weight : (x : PacketName) (held : List PacketName) → (is_among x held ≡ true) ↔ (1 ≤ weight (one_at x) held)
held_by_weight x [] = (λ there. elim (false≢true there) [ ], λ counted. none counted)
  where
    none : 1 ≤ 0 → is_among x [] ≡ true
    none counted = let no_way : ⊥ = omega (arith, counted) in absurd no_way
held_by_weight x (y ∷ held) = counted_first x y held (same_packet x y) refl (held_by_weight x held)
