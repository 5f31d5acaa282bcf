-- One step of the walk over a capture's records, by places.
use Rattle.std.proofs.Common.{◌≡◌, ℕ, zero, suc, ◌+◌, ◌-◌, ◌<◌, ◌≤◌, List, [], ◌∷◌, length, take, drop, refl, sym, ap, ◌∙◌, arith, inl, inr}
use Rattle.std.proofs.lemmas.Bool.{cases_lt, le-leb, lt-leb}
use Rattle.std.proofs.lemmas.List.{length-drop, length-take, drop-drop, take_rest}
use Rattle.sn_pcap.specs.declared.order.Order.{Order}
use Rattle.sn_pcap.specs.Grammar.{number_in}
use Rattle.sn_pcap.specs.Places.{captured_at, order_of, payloads_in, payloads_at, extent}

-- the four bytes of the length, as the code reads them
pub captured_there : (order : Order) (bytes : List ℕ) (at : ℕ)
    → number_in order (take (length bytes - (at + 8)) (drop (at + 8) bytes)) ≡ captured_at order (drop at bytes)
unfolding captured_at
captured_there order bytes at = rw (take_rest, drop-drop) refl

-- a whole record at the front is the first, and the others follow
pub in_whole : (most : ℕ) (order : Order) (bytes : List ℕ) → 16 + captured_at order bytes ≤ length bytes
    → payloads_in (suc most) order bytes
    ≡ take (captured_at order bytes) (drop 16 bytes) ∷ payloads_in most order (drop (16 + captured_at order bytes) bytes)
unfolding payloads_in
in_whole most order bytes h = rw (le-leb (16 + captured_at order bytes) (length bytes) h) refl

-- where no whole record stands at the front there is none
pub in_cut : (most : ℕ) (order : Order) (bytes : List ℕ) → length bytes < 16 + captured_at order bytes
    → payloads_in most order bytes ≡ []
unfolding payloads_in
in_cut zero order bytes h = refl
in_cut (suc most) order bytes h = rw (lt-leb (16 + captured_at order bytes) (length bytes) h) refl

-- as many as there are bytes are enough
pub in_enough : (m n : ℕ) (order : Order) (bytes : List ℕ) → length bytes ≤ m → length bytes ≤ n
    → payloads_in m order bytes ≡ payloads_in n order bytes
in_enough zero n order bytes hm hn =
    in_cut zero order bytes (omega arith) ∙ sym (in_cut n order bytes (omega arith))
in_enough (suc m) zero order bytes hm hn =
    in_cut (suc m) order bytes (omega arith) ∙ sym (in_cut zero order bytes (omega arith))
in_enough (suc m) (suc n) order bytes hm hn =
    elim (cases_lt (length bytes) (16 + captured_at order bytes)) [
      | inl cut ↦ in_cut (suc m) order bytes cut ∙ sym (in_cut (suc n) order bytes cut)
      | inr whole ↦
          let rest = drop (16 + captured_at order bytes) bytes in
          let short : length rest ≤ m = omega (arith, length-drop (16 + captured_at order bytes) bytes) in
          let short' : length rest ≤ n = omega (arith, length-drop (16 + captured_at order bytes) bytes) in
          in_whole m order bytes whole
          ∙ ap (λ (ps : List (List ℕ)). take (captured_at order bytes) (drop 16 bytes) ∷ ps) (in_enough m n order rest short short')
          ∙ sym (in_whole n order bytes whole)
    ]

-- the same by places
pub at_whole : (bytes : List ℕ) (at : ℕ) → at + (16 + captured_at (order_of bytes) (drop at bytes)) ≤ length bytes
    → payloads_at bytes at
    ≡ take (captured_at (order_of bytes) (drop at bytes)) (drop (at + 16) bytes)
    ∷ payloads_at bytes (at + (16 + captured_at (order_of bytes) (drop at bytes)))
unfolding payloads_at
at_whole bytes at h =
    let left = drop at bytes in
    let len = captured_at (order_of bytes) left in
    let fits : 16 + len ≤ length left = omega (arith, length-drop at bytes) in
    let few : length left ≤ length bytes = omega (arith, length-drop at bytes) in
    let more : length left ≤ suc (length bytes) = omega (arith, length-drop at bytes) in
    in_enough (length bytes) (suc (length bytes)) (order_of bytes) left few more
    ∙ in_whole (length bytes) (order_of bytes) left fits
    ∙ rw (drop-drop 16 at bytes, drop-drop (16 + len) at bytes) refl

pub at_cut : (bytes : List ℕ) (at : ℕ) → length bytes < at + (16 + captured_at (order_of bytes) (drop at bytes))
    → payloads_at bytes at ≡ []
unfolding payloads_at
at_cut bytes at h =
    let cut : length (drop at bytes) < 16 + captured_at (order_of bytes) (drop at bytes) = omega (arith, length-drop at bytes) in
    in_cut (length bytes) (order_of bytes) (drop at bytes) cut

-- what a whole record adds to the bytes and to the count
pub record Steps (bytes : List ℕ) (at next : ℕ) : Type 0 where
  pub extents : at + extent (payloads_at bytes at) ≡ next + extent (payloads_at bytes next)
  pub lengths : length (payloads_at bytes at) ≡ length (payloads_at bytes next) + 1

pub steps : (bytes : List ℕ) (at next : ℕ) → next ≡ at + (16 + captured_at (order_of bytes) (drop at bytes))
    → next ≤ length bytes → Steps bytes at next
steps bytes at next e h =
    let len = captured_at (order_of bytes) (drop at bytes) in
    let payload = take len (drop (at + 16) bytes) in
    let first : payloads_at bytes at ≡ payload ∷ payloads_at bytes next =
    rw e (at_whole bytes at (omega arith)) in
    let is_len : length payload ≡ len = omega (arith, length-take len (drop (at + 16) bytes), length-drop (at + 16) bytes) in
    record {
      extents = omega (arith, ap extent first, is_len, e);
      lengths = omega (arith, ap (λ (ps : List (List ℕ)). length ps) first);
    }
