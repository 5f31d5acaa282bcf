-- Which packets are used and which are free, after a slot or the freelist changes.
use Rattle.std.proofs.Common.{◌≡◌, ℕ, ◌+◌, ◌≤◌, ◌==◌, cond, List, [], ◌∷◌, ◌++◌, map, get_or, set, Option, Some, None, IsSome, unwrap_or, refl, sym, ap, ◌∙◌, inl, inr, arith, get_or-set_same, get_or-set_other}
use Rattle.std.proofs.lemmas.Bool.Decides.{eqb_tells}
use Rattle.std.proofs.lemmas.List.{map_push}
use Rattle.slab.specs.Slab.{Slab, Updates}
use Rattle.sn_packet.specs.Packet.{PacketState, no_packet, with_bytes}
use Rattle.sn_packet.specs.Hold.{Held, among, one_if, put_at, there, rewritten, WritesUsed, LeavesFrees, KeepsWeight, slot_weight}
use Rattle.sn_packet.proofs.FreePlaces.{among_first, among_other, among_last, among_last_other, used_is_unlisted, used_is_held}
use Rattle.sn_packet.proofs.SlotSums.{some_within}
use Rattle.sn_packet.proofs.Writes.{packet_there, weight_written}

-- the used packets of these slots, with these places free
abbrev pub used_in : List (Option PacketState) → List ℕ → ℕ → Option PacketState
used_in slots free place = cond (among free place == 0) (get_or slots place None) None

-- the slots by place
abbrev pub slots_at : List (Option PacketState) → ℕ → Option PacketState
slots_at slots place = get_or slots place None

-- the free packets of these slots
abbrev pub frees_in : List (Option PacketState) → List ℕ → List PacketState
frees_in slots free = map (λ place. unwrap_or (get_or slots place None) no_packet) free

-- a slot that isn't free changes
pub used_put : (before after : List (Option PacketState)) (free : List ℕ) (place : ℕ) (slot : Option PacketState) → slots_at after ≡ put_at place slot (slots_at before) → among free place ≡ 0 → used_in after free ≡ put_at place slot (used_in before free)
used_put before after free place slot changed unlisted = λ i q. at q i
  where
    at : (q : ℕ) → used_in after free q ≡ put_at place slot (used_in before free) q
    at q =
        let there : get_or after q None ≡ put_at place slot (slots_at before) q = ap (λ f. f q) changed in
        elim (eqb_tells q place) [
          | inl same ↦
              let none : among free q ≡ 0 = ap (among free) same.1 ∙ unlisted in
              rw none there
          | inr differs ↦
              ap (λ o. cond (among free q == 0) o None) (there ∙ ap (λ b. cond b slot (get_or before q None)) differs.0) ∙ ap (λ b. cond b slot (used_in before free q)) (sym differs.0)
        ]

pub frees_put : (before after : List (Option PacketState)) (free : List ℕ) (place : ℕ) (slot : Option PacketState) → slots_at after ≡ put_at place slot (slots_at before) → among free place ≡ 0 → frees_in after free ≡ frees_in before free
frees_put before after [] place slot changed unlisted = refl
frees_put before after (first ∷ free) place slot changed unlisted =
    elim (eqb_tells first place) [
      | inl same ↦ absurd (omega (arith, unlisted, among_first place free, ap (λ f. among (f ∷ free) place) same.1))
      | inr differs ↦
          let there : get_or after first None ≡ get_or before first None = ap (λ f. f first) changed ∙ ap (λ b. cond b slot (get_or before first None)) differs.0 in
          ap (λ o. unwrap_or o no_packet ∷ frees_in after free) there
          ∙ ap (λ ps. unwrap_or (get_or before first None) no_packet ∷ ps) (frees_put before after free place slot changed (omega (arith, unlisted, among_other first place free differs.1)))
    ]

-- a place that isn't free is freed
pub used_listed : (slots : List (Option PacketState)) (free : List ℕ) (place : ℕ) → among free place ≡ 0 → used_in slots (free ++ place ∷ []) ≡ put_at place None (used_in slots free)
used_listed slots free place unlisted = λ i q. at q i
  where
    at : (q : ℕ) → used_in slots (free ++ place ∷ []) q ≡ put_at place None (used_in slots free) q
    at q =
        elim (eqb_tells q place) [
          | inl same ↦
              let once : among (free ++ place ∷ []) q ≡ 1 = ap (among (free ++ place ∷ [])) same.1 ∙ among_last place free ∙ ap (λ n. n + 1) unlisted in
              rw (once, same.0) refl
          | inr differs ↦
              rw (among_last_other place q free (λ e. differs.1 (sym e)), differs.0) refl
        ]

-- the place that was freed last is taken
pub used_unlisted : (slots : List (Option PacketState)) (free : List ℕ) (place : ℕ) → among free place ≡ 0 → used_in slots free ≡ put_at place (get_or slots place None) (used_in slots (free ++ place ∷ []))
used_unlisted slots free place unlisted = λ i q. at q i
  where
    at : (q : ℕ) → used_in slots free q ≡ put_at place (get_or slots place None) (used_in slots (free ++ place ∷ [])) q
    at q =
        elim (eqb_tells q place) [
          | inl same ↦
              let none : among free q ≡ 0 = ap (among free) same.1 ∙ unlisted in
              rw (none, same.0) (ap (λ p. get_or slots p None) same.1)
          | inr differs ↦
              rw (among_last_other place q free (λ e. differs.1 (sym e)), differs.0) refl
        ]

pub frees_listed : (slots : List (Option PacketState)) (free : List ℕ) (place : ℕ) → frees_in slots (free ++ place ∷ []) ≡ frees_in slots free ++ unwrap_or (get_or slots place None) no_packet ∷ []
frees_listed slots free place = map_push (λ q. unwrap_or (get_or slots q None) no_packet) free place

-- a place that holds nothing isn't free
pub vacant_is_unlisted : (slots : List (Option PacketState)) (free : List ℕ) (place : ℕ) → ((q : ℕ) → among free q ≤ one_if (get_or slots q None)) → get_or slots place None ≡ None → among free place ≡ 0
vacant_is_unlisted slots free place once vacant = omega (arith, once place, ap one_if vacant)

-- the slots by place, after one of a slab's is updated
pub updates_put : (old new : Slab PacketState) (place : ℕ) (slot : Option PacketState) → Updates old new place slot → slots_at new.slots ≡ put_at place slot (slots_at old.slots)
updates_put old new place slot updates = λ i q. at q i
  where
    at : (q : ℕ) → slots_at new.slots q ≡ put_at place slot (slots_at old.slots) q
    at q =
        elim (eqb_tells q place) [
          | inl same ↦ rw same.0 (ap (slots_at new.slots) same.1 ∙ updates.changed)
          | inr differs ↦ rw differs.0 (updates.others q differs.1)
        ]

-- and after one slot of a list is written
pub set_put : (slots : List (Option PacketState)) (place : ℕ) (slot : Option PacketState) → IsSome (get_or slots place None) → slots_at (set slots place slot) ≡ put_at place slot (slots_at slots)
set_put slots place slot held = λ i q. at q i
  where
    at : (q : ℕ) → slots_at (set slots place slot) q ≡ put_at place slot (slots_at slots) q
    at q =
        let there = packet_there (get_or slots place None) held in
        elim (eqb_tells q place) [
          | inl same ↦ rw same.0 (ap (slots_at (set slots place slot)) same.1 ∙ get_or-set_same slots place slot None (some_within slots place there.0 there.1))
          | inr differs ↦ rw differs.0 (get_or-set_other slots place q slot None differs.1)
        ]

pub used_rewritten : (hold : Held) (place : ℕ) (bytes : List ℕ) → WritesUsed place bytes hold (rewritten place bytes hold)
used_rewritten hold place bytes used =
    let count = among hold.free place in
    let slot = get_or hold.slots place None in
    let written = Some (with_bytes bytes (there hold place)) in
    used_put hold.slots (set hold.slots place written) hold.free place written (set_put hold.slots place written (used_is_held count slot used)) (used_is_unlisted count slot used)

pub frees_rewritten : (hold : Held) (place : ℕ) (bytes : List ℕ) → LeavesFrees place hold (rewritten place bytes hold)
frees_rewritten hold place bytes used =
    let count = among hold.free place in
    let slot = get_or hold.slots place None in
    let written = Some (with_bytes bytes (there hold place)) in
    frees_put hold.slots (set hold.slots place written) hold.free place written (set_put hold.slots place written (used_is_held count slot used)) (used_is_unlisted count slot used)

pub weight_rewritten : (hold : Held) (place : ℕ) (bytes : List ℕ) → IsSome (get_or hold.slots place None) → KeepsWeight hold (rewritten place bytes hold)
weight_rewritten hold place bytes held f =
    let target = packet_there (get_or hold.slots place None) held in
    weight_written (slot_weight f) (λ p b. refl) hold.slots place bytes target.0 target.1
