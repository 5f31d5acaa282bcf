-- A capture's header, and what follows from it and from the records behind it.
use Rattle.std.proofs.Common.{◌≡◌, ℕ, ◌+◌, ◌≤◌, true, List, [], ◌++◌, length, take, drop, get_or, refl, sym, ap, subst, ◌∙◌, arith, inl, inr}
use Rattle.std.proofs.lemmas.Bool.{or_cases, or_left, or_right}
use Rattle.std.proofs.lemmas.Slice.Eq.{bytes_eq-Decides}
use Rattle.std.proofs.lemmas.List.{length-drop, length-take, length-append, drop-drop, drop_at, take_at, take-append-drop, drop_all, get_or-take}
use Rattle.sn_pcap.specs.declared.order.Order.{Order}
use Rattle.sn_pcap.specs.declared.order.Order.TheVariants.{Little, Big}
use Rattle.sn_pcap.specs.Grammar.{micro, nano, IsMagic, version, HasHeader, Leads, PcapText}
use Rattle.sn_pcap.specs.Places.{is_magic, order_of, payloads_in, payloads_at, payloads_of, extent, IsOpened}
use Rattle.sn_pcap.proofs.Splitting.{take_then, in_leads, leads_in}

length-magic : (order : Order) (bytes : List ℕ) → IsMagic order bytes → length bytes ≡ 4
unfolding micro nano
length-magic Little bytes m = elim m [ inl e ↦ ap (λ (xs : List ℕ). length xs) e | inr e ↦ ap (λ (xs : List ℕ). length xs) e ]
length-magic Big bytes m = elim m [ inl e ↦ ap (λ (xs : List ℕ). length xs) e | inr e ↦ ap (λ (xs : List ℕ). length xs) e ]

length-version : (order : Order) → length (version order) ≡ 4
unfolding version
length-version Little = refl
length-version Big = refl

-- the test of a magic
pub magic_is_tested : (order : Order) (bytes : List ℕ) → IsMagic order bytes → is_magic order bytes ≡ true
magic_is_tested order bytes m = elim m [
  | inl e ↦ or_left _ _ ((bytes_eq-Decides bytes (micro order)).1 e)
  | inr e ↦ or_right _ _ ((bytes_eq-Decides bytes (nano order)).1 e)
]

pub tested_is_magic : (order : Order) (bytes : List ℕ) → is_magic order bytes ≡ true → IsMagic order bytes
tested_is_magic order bytes t = elim (or_cases _ _ t) [
  | inl e ↦ inl ((bytes_eq-Decides bytes (micro order)).0 e)
  | inr e ↦ inr ((bytes_eq-Decides bytes (nano order)).0 e)
]

-- the first byte tells the order
first_tells : (bytes front : List ℕ) (n : ℕ) → take 4 bytes ≡ front → get_or front 0 0 ≡ n → get_or bytes 0 0 ≡ n
first_tells bytes front n e h = sym (get_or-take 4 bytes 0 0 (omega arith)) ∙ ap (λ (xs : List ℕ). get_or xs 0 0) e ∙ h

pub magic_tells : (order : Order) (bytes : List ℕ) → IsMagic order (take 4 bytes) → order_of bytes ≡ order
unfolding order_of micro nano
magic_tells Little bytes m = elim m [
  | inl e ↦ rw (first_tells bytes (micro Little) 0xd4 e refl) refl
  | inr e ↦ rw (first_tells bytes (nano Little) 0x4d e refl) refl
]
magic_tells Big bytes m = elim m [
  | inl e ↦ rw (first_tells bytes (micro Big) 0xa1 e refl) refl
  | inr e ↦ rw (first_tells bytes (nano Big) 0xa1 e refl) refl
]

-- a header by its places
pub record HeaderParts (order : Order) (bytes body : List ℕ) : Type 0 where
  pub magic_is : IsMagic order (take 4 bytes)
  pub version_is : take 4 (drop 4 bytes) ≡ version order
  pub body_is : drop 24 bytes ≡ body
  pub total : length bytes ≡ 24 + length body

pub header_parts : (order : Order) (bytes body : List ℕ) → HasHeader order bytes body → HeaderParts order bytes body
header_parts order bytes body h =
    let magic_len = length-magic order h.magic h.magic_is in
    let version_len = length-version order in
    let front : take 4 bytes ≡ h.magic = rw h.parts (take_at h.magic (version order ++ (h.further ++ body)) 4 magic_len) in
    let behind : drop 4 bytes ≡ version order ++ (h.further ++ body) =
    rw h.parts (drop_at h.magic (version order ++ (h.further ++ body)) 4 magic_len) in
    let further : drop 8 bytes ≡ h.further ++ body =
    sym (drop-drop 4 4 bytes) ∙ ap (λ (xs : List ℕ). drop 4 xs) behind ∙ drop_at (version order) (h.further ++ body) 4 version_len in
    record {
      magic_is = subst (λ (xs : List ℕ). IsMagic order xs) (sym front) h.magic_is;
      version_is = rw behind (take_at (version order) (h.further ++ body) 4 version_len);
      body_is = sym (drop-drop 16 8 bytes) ∙ ap (λ (xs : List ℕ). drop 16 xs) further ∙ drop_at h.further body 16 h.further_is;
      total = omega (arith, ap (λ (xs : List ℕ). length xs) h.parts, length-append h.magic (version order ++ (h.further ++ body)), length-append (version order) (h.further ++ body), length-append h.further body, magic_len, version_len, h.further_is);
    }

-- a list in four parts
four_parts : (a b c : ℕ) (xs : List ℕ) → xs ≡ take a xs ++ (take b (drop a xs) ++ (take c (drop (a + b) xs) ++ drop (a + b + c) xs))
four_parts a b c xs = rw (take_then c (a + b) xs, take_then b a xs, take-append-drop a xs) refl

pub header_from : (order : Order) (bytes : List ℕ) → 24 ≤ length bytes → IsMagic order (take 4 bytes)
    → take 4 (drop 4 bytes) ≡ version order → HasHeader order bytes (drop 24 bytes)
header_from order bytes long magic_is version_is = record {
  magic = take 4 bytes;
  further = take 16 (drop 8 bytes);
  parts = four_parts 4 4 16 bytes ∙ ap (λ (xs : List ℕ). take 4 bytes ++ (xs ++ (take 16 (drop 8 bytes) ++ drop 24 bytes))) version_is;
  magic_is = magic_is;
  further_is = omega (arith, length-take 16 (drop 8 bytes), length-drop 8 bytes);
}

-- a header, and records that fill what comes behind it
pub text_of : (order : Order) (bytes : List ℕ) → HasHeader order bytes (drop 24 bytes) → order_of bytes ≡ order
    → 24 + extent (payloads_of bytes) ≡ length bytes → PcapText bytes (payloads_of bytes)
unfolding payloads_at
text_of order bytes header order_is fills =
    let named : payloads_in (length bytes) (order_of bytes) (drop 24 bytes) ≡ payloads_in (length bytes) order (drop 24 bytes) =
    ap (λ (o : Order). payloads_in (length bytes) o (drop 24 bytes)) order_is in
    let records = payloads_in (length bytes) order (drop 24 bytes) in
    let filled : extent records + 24 ≡ length bytes = omega (arith, ap extent named, fills) in
    let ends : drop (extent records) (drop 24 bytes) ≡ [] =
    drop_all (extent records) (drop 24 bytes) (omega (arith, length-drop 24 bytes, filled)) in
    let leads : Leads order (drop 24 bytes) records [] =
    subst (λ (xs : List ℕ). Leads order (drop 24 bytes) records xs) ends (in_leads (length bytes) order (drop 24 bytes)) in
    subst (λ (ps : List (List ℕ)). PcapText bytes ps) (sym named)
    (record { order = order; body = drop 24 bytes; header = header; leads = leads })

-- what a capture's text says
pub record IsText (bytes : List ℕ) (records : List (List ℕ)) (order : Order) : Type 0 where
  pub long : 24 ≤ length bytes
  pub magic_is : IsMagic order (take 4 bytes)
  pub version_is : take 4 (drop 4 bytes) ≡ version order
  pub same : payloads_of bytes ≡ records
  pub filled : 24 + extent (payloads_of bytes) ≡ length bytes

pub text_is : (bytes : List ℕ) (records : List (List ℕ)) (t : PcapText bytes records) → IsText bytes records t.order
unfolding payloads_at
text_is bytes records t =
    let parts = header_parts t.order bytes t.body t.header in
    let all = leads_in (length bytes) t.order t.body records [] (omega (arith, parts.total)) (omega arith) t.leads in
    let same : payloads_in (length bytes) (order_of bytes) (drop 24 bytes) ≡ records =
    rw (magic_tells t.order bytes parts.magic_is, parts.body_is) all.same in
    record {
      long = omega (arith, parts.total);
      magic_is = parts.magic_is;
      version_is = parts.version_is;
      same = same;
      filled = omega (arith, ap extent same, all.filled, parts.total);
    }

-- a capture has one list of records
pub one_text : (bytes : List ℕ) (xs ys : List (List ℕ)) → PcapText bytes xs → PcapText bytes ys → xs ≡ ys
one_text bytes xs ys a b = sym (text_is bytes xs a).same ∙ (text_is bytes ys b).same

-- an opened capture is the text of its records
pub opened_text : (order : Order) (bytes : List ℕ) → IsOpened order bytes → PcapText bytes (payloads_of bytes)
opened_text order bytes opened =
    let long : 24 ≤ length bytes = omega (arith, opened.whole.fills) in
    let header = header_from order bytes long (tested_is_magic order (take 4 bytes) opened.magic) opened.version_is in
    text_of order bytes header (sym opened.order_is) opened.whole.fills
