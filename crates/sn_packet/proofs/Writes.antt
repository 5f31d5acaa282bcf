-- The bytes of a packet written at its place. A copy goes by way of a spare buffer: the source is emptied into it,
-- the target written from it, and the source refilled.
use Rattle.std.proofs.Common.{◌≡◌, ◌≢◌, ℕ, ◌<◌, List, get_or, set, length, cond, Option, Some, None, is_some, unwrap_or, refl, sym, ap, ◌∙◌, inl, inr, arith, get_or-set_same, get_or-set_other, sum_by, count_by, IsSome, rules}
use Rattle.std.proofs.lemmas.Bool.{cases_eq}
use Rattle.std.proofs.lemmas.List.{set-set, set_comm, set-get_or, length-set}
use Rattle.std.proofs.lemmas.List.Sums.{sum_by-set}
use Rattle.sn_packet.specs.Packet.{PacketState, with_bytes, no_packet}
use Rattle.sn_packet.specs.Hold.{Held, room_of, rewritten}
use Rattle.sn_packet.proofs.SlotSums.{some_within}

same_packet : (p q : PacketState) → Some p ≡ Some q → p ≡ q
same_packet p q e = ap (λ o. unwrap_or o no_packet) e

pub packet_there : (o : Option PacketState) → IsSome o → (p : PacketState) × (o ≡ Some p)
packet_there None held = absurd (search rules)
packet_there (Some p) held = (p, refl)

-- the slots after the bytes of the packet at one place were copied to another
abbrev pub slots_copied : List (Option PacketState) → ℕ → ℕ → List (Option PacketState)
slots_copied slots from to =
    set slots to (Some (with_bytes (unwrap_or (get_or slots from None) no_packet).bytes (unwrap_or (get_or slots to None) no_packet)))

-- p, q and r are what stood at the places before each write, and p1, q1 and r1 what was written
pub copied : (slots : List (Option PacketState)) (from to : ℕ) (spare held written : List ℕ) (p p1 q q1 r r1 : PacketState)
    → get_or slots from None ≡ Some p → p1 ≡ with_bytes spare p → held ≡ p.bytes → written ≡ held
    → get_or (set slots from (Some p1)) to None ≡ Some q → q1 ≡ with_bytes written q
    → get_or (set (set slots from (Some p1)) to (Some q1)) from None ≡ Some r → r1 ≡ with_bytes held r
    → set (set (set slots from (Some p1)) to (Some q1)) from (Some r1) ≡ slots_copied slots from to
copied slots from to spare held written p p1 q q1 r r1 at_from emptied taken given at_to filled again refilled =
    elim (cases_eq to from) [ inl same ↦ itself same | inr differs ↦ another differs ]
  where
    within : from < length slots
    within = some_within slots from p at_from

    source : unwrap_or (get_or slots from None) no_packet ≡ p
    source = ap (λ o. unwrap_or o no_packet) at_from

    whole : (o : PacketState) → o ≡ with_bytes spare p → with_bytes held o ≡ p
    whole o e = ap (with_bytes held) e ∙ ap (λ bytes. with_bytes bytes p) taken

    another : to ≢ from → set (set (set slots from (Some p1)) to (Some q1)) from (Some r1) ≡ slots_copied slots from to
    another differs =
        let there : r ≡ p1 = same_packet r p1 (sym again ∙ get_or-set_other (set slots from (Some p1)) to from (Some q1) None (λ e. differs (sym e)) ∙ get_or-set_same slots from (Some p1) None within) in
        let back : r1 ≡ p = refilled ∙ whole r (there ∙ emptied) in
        let target : unwrap_or (get_or slots to None) no_packet ≡ q = ap (λ o. unwrap_or o no_packet) (sym (get_or-set_other slots from to (Some p1) None differs) ∙ at_to) in
        let bytes : q1 ≡ with_bytes (unwrap_or (get_or slots from None) no_packet).bytes (unwrap_or (get_or slots to None) no_packet) =
        filled ∙ ap (λ b. with_bytes b q) (given ∙ taken ∙ ap (λ o. o.bytes) (sym source)) ∙ ap (with_bytes (unwrap_or (get_or slots from None) no_packet).bytes) (sym target) in
        set_comm (set slots from (Some p1)) to from (Some q1) (Some r1) differs
        ∙ ap (λ xs. set xs to (Some q1)) (set-set slots from (Some p1) (Some r1) ∙ ap (λ o. set slots from (Some o)) back ∙ ap (set slots from) (sym at_from) ∙ set-get_or slots from None)
        ∙ ap (λ o. set slots to (Some o)) bytes

    itself : to ≡ from → set (set (set slots from (Some p1)) to (Some q1)) from (Some r1) ≡ slots_copied slots from to
    itself same =
        let first : q ≡ p1 = same_packet q p1 (sym at_to ∙ ap (λ t. get_or (set slots from (Some p1)) t None) same ∙ get_or-set_same slots from (Some p1) None within) in
        let second : r ≡ q1 =
        same_packet r q1 (sym again ∙ ap (λ t. get_or (set (set slots from (Some p1)) t (Some q1)) from None) same
        ∙ get_or-set_same (set slots from (Some p1)) from (Some q1) None (omega (arith, within, length-set slots from (Some p1)))) in
        let back : r1 ≡ p = refilled ∙ ap (with_bytes held) (second ∙ filled) ∙ ap (with_bytes held) (first ∙ emptied) ∙ ap (λ bytes. with_bytes bytes p) taken in
        let kept : with_bytes (unwrap_or (get_or slots from None) no_packet).bytes (unwrap_or (get_or slots from None) no_packet) ≡ p = source in
        ap (λ t. set (set (set slots from (Some p1)) t (Some q1)) from (Some r1)) same
        ∙ set-set (set slots from (Some p1)) from (Some q1) (Some r1)
        ∙ set-set slots from (Some p1) (Some r1)
        ∙ ap (λ o. set slots from (Some o)) (back ∙ sym kept)
        ∙ ap (λ t. slots_copied slots from t) (sym same)

-- nothing weighs more or less, and no slot is emptied, where a packet's bytes are written
pub weight_written : (w : Option PacketState → ℕ) → ((p : PacketState) (bytes : List ℕ) → w (Some (with_bytes bytes p)) ≡ w (Some p)) → (slots : List (Option PacketState)) (place : ℕ) (bytes : List ℕ) (q : PacketState) → get_or slots place None ≡ Some q → sum_by w (set slots place (Some (with_bytes bytes (unwrap_or (get_or slots place None) no_packet)))) ≡ sum_by w slots
weight_written w same slots place bytes q there =
    let x = with_bytes bytes (unwrap_or (get_or slots place None) no_packet) in
    let target : unwrap_or (get_or slots place None) no_packet ≡ q = ap (λ o. unwrap_or o no_packet) there in
    omega (arith, sum_by-set w slots place (Some x) None (some_within slots place q there), ap w there, ap (λ o. w (Some (with_bytes bytes o))) target, same q bytes)

abbrev pub held_as : List (Option PacketState) → List ℕ → ℕ → ℕ → Held
held_as slots free next room = record { slots = slots; free = free; next = next; room = room }

-- a packet's bytes are written, and the room stays, which counts the slots with a packet
pub held_rewritten : (slots new : List (Option PacketState)) (place : ℕ) (bytes : List ℕ) (free : List ℕ) (next capacity freelist : ℕ) → IsSome (get_or slots place None) → new ≡ set slots place (Some (with_bytes bytes (unwrap_or (get_or slots place None) no_packet))) → held_as new free next (room_of capacity freelist (count_by is_some new)) ≡ rewritten place bytes (held_as slots free next (room_of capacity freelist (count_by is_some slots)))
held_rewritten slots new place bytes free next capacity freelist held writes =
    let target = packet_there (get_or slots place None) held in
    let written = set slots place (Some (with_bytes bytes (unwrap_or (get_or slots place None) no_packet))) in
    ap (λ s. held_as s free next (room_of capacity freelist (count_by is_some s))) writes
    ∙ ap (λ n. held_as written free next (room_of capacity freelist n)) (weight_written (λ o. cond (is_some o) 1 0) (λ p b. refl) slots place bytes target.0 target.1)

-- likewise where the packet that was written is named
pub held_written : (slots : List (Option PacketState)) (place : ℕ) (bytes : List ℕ) (p p1 : PacketState) (free : List ℕ) (next capacity freelist : ℕ) → get_or slots place None ≡ Some p → p1 ≡ with_bytes bytes p → held_as (set slots place (Some p1)) free next (room_of capacity freelist (count_by is_some (set slots place (Some p1)))) ≡ rewritten place bytes (held_as slots free next (room_of capacity freelist (count_by is_some slots)))
held_written slots place bytes p p1 free next capacity freelist there written =
    let whole : p1 ≡ with_bytes bytes (unwrap_or (get_or slots place None) no_packet) = written ∙ ap (λ o. with_bytes bytes (unwrap_or o no_packet)) (sym there) in
    held_rewritten slots (set slots place (Some p1)) place bytes free next capacity freelist (rw there refl) (ap (λ o. set slots place (Some o)) whole)
