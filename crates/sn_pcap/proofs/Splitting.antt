-- The grammar's records against the ones that stand at places: a record is split off in one way.
use Rattle.std.proofs.Common.{◌≡◌, ℕ, zero, suc, ◌+◌, ◌<◌, ◌≤◌, List, [], ◌∷◌, ◌++◌, length, take, drop, refl, sym, ap, subst, ◌∙◌, arith, inl, inr, append_assoc}
use Rattle.std.proofs.lemmas.Bool.{cases_lt}
use Rattle.std.proofs.lemmas.List.{length-drop, length-take, length-append, drop-drop, drop_at, take_at, take-append-drop}
use Rattle.byteorder.specs.Numbers.{little_from-append, big_from-append, little_from-take, big_from-take}
use Rattle.sn_pcap.specs.declared.order.Order.{Order}
use Rattle.sn_pcap.specs.declared.order.Order.TheVariants.{Little, Big}
use Rattle.sn_pcap.specs.Grammar.{number_in, SplitsOff, Leads}
use Rattle.sn_pcap.specs.Places.{captured_at, payloads_in, extent}
use Rattle.sn_pcap.proofs.Stepping.{in_whole, in_cut}

-- the number is that of the first four bytes alone
pub number_in-append : (order : Order) (bytes rest : List ℕ) → 4 ≤ length bytes → number_in order (bytes ++ rest) ≡ number_in order bytes
unfolding number_in
number_in-append Little bytes rest h = little_from-append 4 bytes rest h
number_in-append Big bytes rest h = big_from-append 4 bytes rest h

number_in-take : (order : Order) (bytes : List ℕ) → number_in order (take 4 bytes) ≡ number_in order bytes
unfolding number_in
number_in-take Little bytes = little_from-take 0 4 4 bytes (omega arith)
number_in-take Big bytes = big_from-take 0 4 4 bytes (omega arith)

-- what comes at a place, and what comes behind it
pub take_then : (n m : ℕ) (xs : List ℕ) → take n (drop m xs) ++ drop (m + n) xs ≡ drop m xs
take_then n m xs = rw (← drop-drop n m xs) (take-append-drop n (drop m xs))

-- a list in five parts
five_parts : (a b c n : ℕ) (xs : List ℕ)
    → xs ≡ take a xs ++ (take b (drop a xs) ++ (take c (drop (a + b) xs) ++ (take n (drop (a + b + c) xs) ++ drop (a + b + c + n) xs)))
five_parts a b c n xs =
    rw (take_then n (a + b + c) xs, take_then c (a + b) xs, take_then b a xs, take-append-drop a xs) refl

-- a whole record at the front is split off
pub splits : (order : Order) (bytes : List ℕ) → 16 + captured_at order bytes ≤ length bytes
    → SplitsOff order bytes (take (captured_at order bytes) (drop 16 bytes)) (drop (16 + captured_at order bytes) bytes)
unfolding captured_at
splits order bytes h = record {
  time = take 8 bytes;
  captured = take 4 (drop 8 bytes);
  original = take 4 (drop 12 bytes);
  parts = five_parts 8 4 4 (number_in order (drop 8 bytes)) bytes;
  time_is = omega (arith, length-take 8 bytes);
  captured_is = omega (arith, length-take 4 (drop 8 bytes), length-drop 8 bytes);
  original_is = omega (arith, length-take 4 (drop 12 bytes), length-drop 12 bytes);
  says = number_in-take order (drop 8 bytes)
      ∙ omega (arith, length-take (number_in order (drop 8 bytes)) (drop 16 bytes), length-drop 16 bytes);
}

-- what is split off is the whole record at the front
pub record IsFirst (order : Order) (bytes payload rest : List ℕ) : Type 0 where
  pub says : captured_at order bytes ≡ length payload
  pub total : length bytes ≡ 16 + length payload + length rest
  pub payload_is : take (captured_at order bytes) (drop 16 bytes) ≡ payload
  pub rest_is : drop (16 + captured_at order bytes) bytes ≡ rest

-- a list whose front has a known length, cut there
cut_at : (front xs back : List ℕ) (n : ℕ) → xs ≡ front ++ back → length front ≡ n → drop n xs ≡ back
cut_at front xs back n e h = rw e (drop_at front back n h)

pub first_is : (order : Order) (bytes payload rest : List ℕ) → SplitsOff order bytes payload rest → IsFirst order bytes payload rest
unfolding captured_at
first_is order bytes payload rest s =
    let after_time : drop 8 bytes ≡ s.captured ++ (s.original ++ (payload ++ rest)) = cut_at s.time bytes _ 8 s.parts s.time_is in
    let says : number_in order (drop 8 bytes) ≡ length payload =
    rw after_time (number_in-append order s.captured (s.original ++ (payload ++ rest)) (omega (arith, s.captured_is)) ∙ s.says) in
    let header : length (s.time ++ (s.captured ++ s.original)) ≡ 16 =
    omega (arith, length-append s.time (s.captured ++ s.original), length-append s.captured s.original, s.time_is, s.captured_is, s.original_is) in
    let grouped : bytes ≡ (s.time ++ (s.captured ++ s.original)) ++ (payload ++ rest) =
    s.parts ∙ simp append_assoc in
    let after_header : drop 16 bytes ≡ payload ++ rest = cut_at (s.time ++ (s.captured ++ s.original)) bytes (payload ++ rest) 16 grouped header in
    let total : length bytes ≡ 16 + length payload + length rest =
    omega (arith, ap (λ (xs : List ℕ). length xs) grouped, length-append (s.time ++ (s.captured ++ s.original)) (payload ++ rest), length-append payload rest, header) in
    record {
      says = says;
      total = total;
      payload_is = rw (says, after_header) (take_at payload rest (length payload) refl);
      rest_is = rw (says, ← drop-drop (length payload) 16 bytes, after_header) (drop_at payload rest (length payload) refl);
    }

in_none : (order : Order) (bytes : List ℕ) → payloads_in zero order bytes ≡ []
unfolding payloads_in
in_none order bytes = refl

-- the records that stand at the front lead the bytes
pub in_leads : (most : ℕ) (order : Order) (bytes : List ℕ)
    → Leads order bytes (payloads_in most order bytes) (drop (extent (payloads_in most order bytes)) bytes)
in_leads zero order bytes = rw (in_none order bytes) refl
in_leads (suc most) order bytes =
    elim (cases_lt (length bytes) (16 + captured_at order bytes)) [
      | inl cut ↦ rw (in_cut (suc most) order bytes cut) refl
      | inr whole ↦
          let payload = take (captured_at order bytes) (drop 16 bytes) in
          let rest = drop (16 + captured_at order bytes) bytes in
          let more = payloads_in most order rest in
          let is_len : length payload ≡ captured_at order bytes =
          omega (arith, length-take (captured_at order bytes) (drop 16 bytes), length-drop 16 bytes) in
          let behind : drop (extent more) rest ≡ drop (16 + length payload + extent more) bytes =
          rw (is_len) (drop-drop (extent more) (16 + captured_at order bytes) bytes) in
          let leads : Leads order rest more (drop (16 + length payload + extent more) bytes) =
          subst (λ (xs : List ℕ). Leads order rest more xs) behind (in_leads most order rest) in
          subst (λ (ps : List (List ℕ)). Leads order bytes ps (drop (extent ps) bytes)) (sym (in_whole most order bytes whole))
          (rest, splits order bytes whole, leads)
    ]

-- behind the records that stand at the front no whole one comes
pub in_stops : (most : ℕ) (order : Order) (bytes : List ℕ) → length bytes ≤ most
    → length (drop (extent (payloads_in most order bytes)) bytes) < 16 + captured_at order (drop (extent (payloads_in most order bytes)) bytes)
in_stops zero order bytes h =
    rw (in_none order bytes) (omega arith)
in_stops (suc most) order bytes h =
    elim (cases_lt (length bytes) (16 + captured_at order bytes)) [
      | inl cut ↦ rw (in_cut (suc most) order bytes cut) cut
      | inr whole ↦
          let payload = take (captured_at order bytes) (drop 16 bytes) in
          let rest = drop (16 + captured_at order bytes) bytes in
          let more = payloads_in most order rest in
          let is_len : length payload ≡ captured_at order bytes =
          omega (arith, length-take (captured_at order bytes) (drop 16 bytes), length-drop 16 bytes) in
          let behind : drop (extent more) rest ≡ drop (16 + length payload + extent more) bytes =
          rw (is_len) (drop-drop (extent more) (16 + captured_at order bytes) bytes) in
          let shorter : length rest ≤ most = omega (arith, length-drop (16 + captured_at order bytes) bytes) in
          let stops : length (drop (16 + length payload + extent more) bytes) < 16 + captured_at order (drop (16 + length payload + extent more) bytes) =
          subst (λ (xs : List ℕ). length xs < 16 + captured_at order xs) behind (in_stops most order rest shorter) in
          subst (λ (ps : List (List ℕ)). length (drop (extent ps) bytes) < 16 + captured_at order (drop (extent ps) bytes))
          (sym (in_whole most order bytes whole)) stops
    ]

-- records that lead the bytes to where no whole one comes are those that stand there
pub record AreAll (most : ℕ) (order : Order) (bytes : List ℕ) (records : List (List ℕ)) (rest : List ℕ) : Type 0 where
  pub same : payloads_in most order bytes ≡ records
  pub filled : extent records + length rest ≡ length bytes

pub leads_in : (most : ℕ) (order : Order) (bytes : List ℕ) (records : List (List ℕ)) (rest : List ℕ) → length bytes ≤ most
    → length rest < 16 + captured_at order rest → Leads order bytes records rest → AreAll most order bytes records rest
leads_in most order bytes [] rest h stop leads =
    let cut : length bytes < 16 + captured_at order bytes = rw leads stop in
    record { same = in_cut most order bytes cut; filled = omega (arith, ap (λ (xs : List ℕ). length xs) leads) }
leads_in zero order bytes (payload ∷ more) rest h stop leads =
    let first = first_is order bytes payload leads.0 leads.1 in
    absurd (omega (arith, first.total))
leads_in (suc most) order bytes (payload ∷ more) rest h stop leads =
    let first = first_is order bytes payload leads.0 leads.1 in
    let shorter : length leads.0 ≤ most = omega (arith, first.total) in
    let later = leads_in most order leads.0 more rest shorter stop leads.2 in
    let fits : 16 + captured_at order bytes ≤ length bytes = omega (arith, first.total, first.says) in
    record {
      same = in_whole most order bytes fits ∙ rw (first.payload_is, first.rest_is, later.same) refl;
      filled = omega (arith, first.total, later.filled);
    }
