-- A hold whose packets are all free is emptied, and the names are listed.
use Rattle.std.proofs.Common.{◌≡◌, ℕ, suc, ◌+◌, ◌==◌, true, cond, List, [], ◌∷◌, ◌++◌, Option, Some, None}
use Rattle.std.proofs.Common.{get_or, map, reverse, subst, sum_by, Bool, false, unwrap_or, refl, sym, ap, ap₂, ◌∙◌, arith}
use Rattle.std.proofs.Common.{append-nil, append_assoc}
use Rattle.std.proofs.lemmas.List.{map_push, reverse-append}
use Rattle.std.proofs.lemmas.List.Sorted.{IsPermutation-reverse, IsPermutation-sym, IsPermutation-trans, sum_by-IsPermutation}
use Rattle.std.proofs.lemmas.List.Sums.{sum_by-cons, sum_by_push}
use Rattle.std.specs.List.Sorted.{IsPermutation}
use Rattle.sn_app.specs.Desk.{name_of}
use Rattle.sn_journal.specs.HandOvers.{PacketName}
use Rattle.sn_journal.specs.Holding as journal
use Rattle.sn_packet.specs.Hold.{Held, at_of, frees_of, put_at, slot_weight, there, used_of, weight}
use Rattle.sn_packet.specs.Packet.{PacketState, no_packet}
use Rattle.sn_sharing.specs.Kept.{IsAllFree, IsEmptied}

-- so far: what was held first is what is held now and what is listed
pub record EmptiedTo (first now : Held) (names : List PacketName) : Type 0 where
  pub all_free : IsAllFree now
  pub names_are : map name_of (frees_of first) ≡ map name_of (frees_of now) ++ reverse names
  pub weighs : (f : ℕ → ℕ → ℕ) → weight f first ≡ weight f now + journal.weight f names

pub not_begun : (hold : Held) → IsAllFree hold → EmptiedTo hold hold []
not_begun hold free = record {
  all_free = free;
  names_are = sym (append-nil (map name_of (frees_of hold)));
  weighs = λ f. omega arith;
}

-- one packet more comes out and is listed
module _ (first now taken after : Held) (names : List PacketName) (place : ℕ) (packet : PacketState)
    (h : EmptiedTo first now names) (used : used_of taken ≡ put_at place (at_of now place) (used_of now))
    (frees : frees_of now ≡ frees_of taken ++ there now place ∷ []) (rest : taken ≡ record now { free = taken.free })
    (lifted : at_of taken place ≡ Some packet) (left : used_of after ≡ put_at place None (used_of taken))
    (still : frees_of after ≡ frees_of taken)
    (less : (f : ℕ → ℕ → ℕ) → weight f after + f packet.number packet.turn ≡ weight f taken) where
  all_free_more : IsAllFree after
  all_free_more other = ap (λ (u : ℕ → Option PacketState). u other) left ∙ by (other == place) refl
    where
      by : (b : Bool) → (other == place) ≡ b → cond b None (used_of taken other) ≡ None
      by true at = refl
      by false at =
          ap (λ (u : ℕ → Option PacketState). u other) used
          ∙ (ap (λ c. cond c (at_of now place) (used_of now other)) at ∙ h.all_free other)

  same_packet : name_of (there now place) ≡ name_of packet
  same_packet = ap (λ (t : Held). name_of (there t place)) (sym rest) ∙ ap (λ o. name_of (unwrap_or o no_packet)) lifted

  pub one_out : EmptiedTo first after (names ++ name_of packet ∷ [])
  one_out = record {
    all_free = all_free_more;
    names_are =
        h.names_are
        ∙ (ap (λ l. l ++ reverse names)
        (ap (map name_of) frees
        ∙ (map_push name_of (frees_of taken) (there now place)
        ∙ ap₂ (λ l n. map name_of l ++ n ∷ []) (sym still) same_packet))
        ∙ (append_assoc (map name_of (frees_of after)) (name_of packet ∷ []) (reverse names)
        ∙ ap (λ l. map name_of (frees_of after) ++ l) (sym (reverse-append names (name_of packet ∷ [])))));
    weighs =
        λ f.
        let same : weight f taken ≡ weight f now = ap (weight f) rest in
        let more = sum_by_push (λ (x : PacketName). f x.0 x.1) names (name_of packet) in
        omega (arith, h.weighs f, less f, same, more);
  }

none_weighs : (f : ℕ → ℕ → ℕ) (slots : List (Option PacketState)) → ((k : ℕ) → get_or slots k None ≡ None)
    → sum_by (slot_weight f) slots ≡ 0
none_weighs f [] none = refl
none_weighs f (slot ∷ slots) none =
    let here : slot_weight f slot ≡ 0 = ap (slot_weight f) (none 0) in
    omega (arith, sum_by-cons (slot_weight f) slot slots, here, none_weighs f slots (λ k. none (suc k)))

-- where no packet is free any more nothing is held, and all is listed
pub all_out : (first now : Held) (names : List PacketName) → EmptiedTo first now names → now.free ≡ [] → IsEmptied first names
all_out first now names h none = record {
  names_are = h.names_are ∙ ap (λ places. map name_of (map (there now) places) ++ reverse names) none;
  weighs =
      λ f.
      let nothing : weight f now ≡ 0 =
      none_weighs f now.slots (λ k. nothing_at k) in
      omega (arith, h.weighs f, nothing);
}
  where
    nothing_at : (k : ℕ) → at_of now k ≡ None
    nothing_at k = ap (λ places. used_of (record now { free = places }) k) (sym none) ∙ h.all_free k

-- the names in an order
pub sorted_names : (frees names sorted : List PacketName) → frees ≡ reverse names → IsPermutation names sorted
    → IsPermutation frees sorted
sorted_names frees names sorted e same =
    subst (λ l. IsPermutation l sorted) (sym e)
    (IsPermutation-trans (reverse names) names sorted (IsPermutation-sym names (reverse names)
    (IsPermutation-reverse names)) same)

pub sorted_weight : (f : ℕ → ℕ → ℕ) (names sorted : List PacketName) → IsPermutation names sorted
    → journal.weight f sorted ≡ journal.weight f names
sorted_weight f names sorted same = sum_by-IsPermutation (λ (x : PacketName). f x.0 x.1) names sorted same
