-- Queues whose first places are emptied: what a take, a release and a publish leave of them.
use Rattle.std.proofs.Common.{◌≡◌, ℕ, ◌+◌, ◌<◌, ◌≤◌, Option, List, [], ◌∷◌, ◌++◌, map, true, length, drop, Some, None, is_some, IsSome, refl, sym, ap, ◌∙◌, subst, arith, slice_get, slice_set, get_or, zero, suc}
use Rattle.std.specs.List.{All}
use Rattle.std.proofs.lemmas.List.{length-map, length-append}
use Rattle.std.proofs.lemmas.List.Elements.{All-nil, All-cons, All-head, All-tail, All-append}
use Rattle.std.proofs.lemmas.Bool.{false≢true}
use Rattle.std.proofs.lemmas.Option.{slice_get_read, slice_get_past}
use Rattle.sn_core.specs.declared.parts.Packet.{Packet}
use Rattle.sn_core.specs.Lane.{unreleased, first_filled, next_emptied, emptied_by}
use Rattle.sn_core.specs.Seat.{joined}

-- a place is filled
abbrev pub Filled : Option Packet → Type 0
Filled place = IsSome place

pub none_unreleased : (queue : List (Option Packet)) → All Filled queue → unreleased queue ≡ 0
none_unreleased [] all = refl
none_unreleased (None ∷ places) all = absurd (false≢true (All-head Filled None places all))
none_unreleased (Some packet ∷ places) all = refl

pub unreleased_within : (queue : List (Option Packet)) → unreleased queue ≤ length queue
unreleased_within [] = omega arith
unreleased_within (None ∷ places) = omega (arith, unreleased_within places)
unreleased_within (Some packet ∷ places) = omega arith

pub length_dropped : (queue : List (Option Packet)) → length (drop (unreleased queue) queue) + unreleased queue ≡ length queue
length_dropped [] = refl
length_dropped (None ∷ places) = omega (arith, length_dropped places)
length_dropped (Some packet ∷ places) = omega arith

-- the first packet is taken
pub length_next : (queue : List (Option Packet)) → length (next_emptied queue) ≡ length queue
length_next [] = refl
length_next (None ∷ places) = omega (arith, length_next places)
length_next (Some packet ∷ places) = refl

pub unreleased_next : (queue : List (Option Packet)) → is_some (first_filled queue) ≡ true → All Filled (drop (unreleased queue) queue) → unreleased (next_emptied queue) ≡ unreleased queue + 1
unreleased_next [] some all = cc
unreleased_next (None ∷ places) some all = omega (arith, unreleased_next places some all)
unreleased_next (Some packet ∷ places) some all = omega (arith, none_unreleased places (All-tail Filled (Some packet) places all))

pub filled_next : (queue : List (Option Packet)) → All Filled (drop (unreleased queue) queue) → All Filled (drop (unreleased (next_emptied queue)) (next_emptied queue))
filled_next [] all = all
filled_next (None ∷ places) all = filled_next places all
filled_next (Some packet ∷ places) all =
    let rest = All-tail Filled (Some packet) places all in
    subst (λ n. All Filled (drop n places)) (sym (none_unreleased places rest)) rest

-- a filled place stands at the count of emptied ones
pub first_place : (queue : List (Option Packet)) → first_filled queue ≡ joined (slice_get queue (unreleased queue))
first_place [] = refl
first_place (None ∷ places) = first_place places
first_place (Some packet ∷ places) = refl

pub next_place : (queue : List (Option Packet)) → slice_set queue (unreleased queue) None ≡ next_emptied queue
next_place [] = refl
next_place (None ∷ places) = ap (λ q. None ∷ q) (next_place places)
next_place (Some packet ∷ places) = refl

pub first_within : (queue : List (Option Packet)) → is_some (first_filled queue) ≡ true → unreleased queue < length queue
first_within [] some = cc
first_within (None ∷ places) some = omega (arith, first_within places some)
first_within (Some packet ∷ places) some = omega arith

pub first_read : (queue : List (Option Packet)) (n : ℕ) (place : Option Packet) → n ≡ unreleased queue → n < length queue → place ≡ get_or queue n place → place ≡ first_filled queue
first_read queue n place is within read =
    let at : slice_get queue n ≡ Some place = slice_get_read queue (length queue) n place refl within read in
    sym (first_place queue ∙ ap (λ k. joined (slice_get queue k)) (sym is) ∙ ap joined at)

pub first_past : (queue : List (Option Packet)) (n : ℕ) → n ≡ unreleased queue → length queue ≤ n → first_filled queue ≡ None
first_past queue n is past = first_place queue ∙ ap (λ k. joined (slice_get queue k)) (sym is) ∙ ap joined (slice_get_past queue n past)

pub next_read : (queue : List (Option Packet)) (n : ℕ) → n ≡ unreleased queue → slice_set queue n None ≡ next_emptied queue
next_read queue n is = ap (λ k. slice_set queue k None) is ∙ next_place queue

-- emptied places are given back
pub unreleased_dropped : (queue : List (Option Packet)) → All Filled (drop (unreleased queue) queue) → unreleased (drop (unreleased queue) queue) ≡ 0
unreleased_dropped queue all = none_unreleased (drop (unreleased queue) queue) all

-- packets join the end
all_filled : (packets : List Packet) → All Filled (map Some packets)
all_filled [] = All-nil Filled
all_filled (packet ∷ packets) = All-cons Filled (Some packet) (map Some packets) refl (all_filled packets)

pub unreleased_more : (queue : List (Option Packet)) (packets : List Packet) → unreleased (queue ++ map Some packets) ≡ unreleased queue
unreleased_more [] packets = none_unreleased (map Some packets) (all_filled packets)
unreleased_more (None ∷ places) packets = ap suc (unreleased_more places packets)
unreleased_more (Some packet ∷ places) packets = refl

pub filled_more : (queue : List (Option Packet)) (packets : List Packet) → All Filled (drop (unreleased queue) queue) → All Filled (drop (unreleased (queue ++ map Some packets)) (queue ++ map Some packets))
filled_more [] packets all =
    subst (λ n. All Filled (drop n (map Some packets))) (sym (none_unreleased (map Some packets) (all_filled packets))) (all_filled packets)
filled_more (None ∷ places) packets all = filled_more places packets all
filled_more (Some packet ∷ places) packets all = All-append Filled (Some packet ∷ places) (map Some packets) all (all_filled packets)

pub length_more : (queue : List (Option Packet)) (packets : List Packet) → length (queue ++ map Some packets) ≡ length queue + length packets
length_more queue packets = omega (arith, length-append queue (map Some packets), length-map packets (λ packet. Some packet))

-- a queue with so many places emptied
pub next_of_emptied : (n : ℕ) (queue : List (Option Packet)) → All Filled queue → next_emptied (emptied_by n queue) ≡ emptied_by (suc n) queue
next_of_emptied zero [] all = refl
next_of_emptied zero (None ∷ places) all = absurd (false≢true (All-head Filled None places all))
next_of_emptied zero (Some packet ∷ places) all = refl
next_of_emptied (suc n) [] all = refl
next_of_emptied (suc n) (place ∷ places) all = ap (λ q. None ∷ q) (next_of_emptied n places (All-tail Filled place places all))

pub rest_of_emptied : (n : ℕ) (queue : List (Option Packet)) → drop n (emptied_by n queue) ≡ drop n queue
rest_of_emptied zero queue = refl
rest_of_emptied (suc n) [] = refl
rest_of_emptied (suc n) (place ∷ places) = rest_of_emptied n places

pub more_of_emptied : (n : ℕ) (queue more : List (Option Packet)) → n ≤ length queue → emptied_by n (queue ++ more) ≡ emptied_by n queue ++ more
more_of_emptied zero queue more le = refl
more_of_emptied (suc n) [] more le = absurd (omega arith)
more_of_emptied (suc n) (place ∷ places) more le = ap (λ q. None ∷ q) (more_of_emptied n places more (omega arith))

pub unreleased_of_emptied : (n : ℕ) (queue : List (Option Packet)) → All Filled queue → n ≤ length queue → unreleased (emptied_by n queue) ≡ n
unreleased_of_emptied zero queue all le = none_unreleased queue all
unreleased_of_emptied (suc n) [] all le = absurd (omega arith)
unreleased_of_emptied (suc n) (place ∷ places) all le = ap suc (unreleased_of_emptied n places (All-tail Filled place places all) (omega arith))

pub first_of_emptied : (n : ℕ) (queue : List (Option Packet)) → All Filled queue → first_filled (emptied_by n queue) ≡ joined (slice_get queue n)
first_of_emptied zero [] all = refl
first_of_emptied zero (None ∷ places) all = absurd (false≢true (All-head Filled None places all))
first_of_emptied zero (Some packet ∷ places) all = refl
first_of_emptied (suc n) [] all = refl
first_of_emptied (suc n) (place ∷ places) all = first_of_emptied n places (All-tail Filled place places all)
