-- What the calls on the ring ask of an end's fields, and what they leave of them.
use Rattle.std.proofs.Common.{◌≡◌, ◌<◌, ℕ, ◌+◌, ◌%◌, Bool, true, false, [], ◌∷◌, Some, None, IsSome, refl, sym, ap, ap₂, ◌∙◌, subst, arith}
use Rattle.std.specs.Prelude.{unwrap_or}
use Rattle.std.proofs.lemmas.Bool.{lt-ltb}
use mathlib.Core.Option.{none}
use Rattle.atomic_table.specs.Table.{Me, step, rest, Allows}
use Rattle.sn_core.specs.declared.events.Side.{Side}
use Rattle.sn_core.specs.declared.events.Side.TheVariants.{Tx, Rx}
use Rattle.sn_packet.specs.Packet.{PacketState}
use Rattle.sn_interlink.specs.declared.view.EndState.{EndState}
use Rattle.sn_interlink.specs.declared.view.EndState.TheVariants.{Out, Up, Closing}
use Rattle.sn_interlink.specs.declared.view.Hand.{Hand}
use Rattle.sn_interlink.specs.declared.view.Hand.TheVariants.{Writing, Reading}
use Rattle.sn_interlink.specs.declared.view.Known.{Known}
use Rattle.sn_interlink.specs.declared.view.View.{View}
use Rattle.sn_interlink.specs.declared.view.View.TheVariants.{One}
use Rattle.sn_interlink.specs.Rule.{Lying, first_of, bound_of, lies_in, Rule}
use Rattle.sn_interlink.specs.Moves.{Half, idle, laid, taken, carry, lends, load_of, if_out, out_of}
use Rattle.sn_interlink.specs.Plays.{known_of, SyncPlay, RoomPlay, FarRoomPlay, SeePlay, PutPlay, TakePlay, DrainPlay}
use Rattle.sn_interlink.specs.Ends.{if_ready, is_on_state, half_by, laid_as, reach_by, Fields, if_synced, place_by, hand_as, hand_by, HandFull, FieldsFit, IsEnd}
use Rattle.sn_interlink.proofs.RingSteps.{sync_steps, room_steps, far_room_steps, see_steps, put_steps, take_steps, drain_steps}
use Rattle.sn_interlink.proofs.Steps.{Steps}
use Rattle.sn_interlink.proofs.Calls.{allowed}

-- the receiver learns its position
pub sync_allowed : (slots id : ℕ) (f : Fields) (m : Me Lying View) → IsEnd f m → f.side ≡ Rx → f.state ≡ Up → Allows Rule slots id m 2 (λ n. n) (SyncPlay (step slots 2 0 0 none) m)
sync_allowed slots id f m inv side is_state =
    let half : Half = half_by f.half (known_of m.0).hand (load_of m.1) in
    allowed slots id f m half 2 (λ n. n) (SyncPlay (step slots 2 0 0 none)) inv refl
    (subst (λ x. Steps x (known_of m.0) half 2 (λ n. n) (SyncPlay (step slots 2 0 0 none) (One x (known_of m.0), out_of (known_of m.0).hand half))) (sym side)
    (sync_steps slots (known_of m.0) half (inv.fit.state ∙ is_state)))

-- the transmitter sees room
pub room_allowed : (slots id : ℕ) (f : Fields) (m : Me Lying View) → IsEnd f m → f.side ≡ Tx → f.state ≡ Up → f.half ≡ false → Allows Rule slots id m 2 (λ n. n) (RoomPlay (step slots 2 0 0 none) m)
room_allowed slots id f m inv side is_state no_half =
    allowed slots id f m idle 2 (λ n. n) (RoomPlay (step slots 2 0 0 none)) inv (ap (λ b. half_by b (known_of m.0).hand (load_of m.1)) no_half)
    (subst (λ x. Steps x (known_of m.0) idle 2 (λ n. n) (RoomPlay (step slots 2 0 0 none) (One x (known_of m.0), out_of (known_of m.0).hand idle))) (sym side)
    (room_steps slots (known_of m.0) (inv.fit.state ∙ is_state)))

-- the closing transmitter sees what is left
pub far_room_allowed : (slots id : ℕ) (f : Fields) (m : Me Lying View) → IsEnd f m → f.side ≡ Tx → f.state ≡ Closing → f.half ≡ false → Allows Rule slots id m 2 (λ n. n) (FarRoomPlay (step slots 2 0 0 none) m)
far_room_allowed slots id f m inv side is_state no_half =
    allowed slots id f m idle 2 (λ n. n) (FarRoomPlay (step slots 2 0 0 none)) inv (ap (λ b. half_by b (known_of m.0).hand (load_of m.1)) no_half)
    (subst (λ x. Steps x (known_of m.0) idle 2 (λ n. n) (FarRoomPlay (step slots 2 0 0 none) (One x (known_of m.0), out_of (known_of m.0).hand idle))) (sym side)
    (far_room_steps slots (known_of m.0) (inv.fit.state ∙ is_state)))

-- THE SLOT THAT IS OUT

-- the hand of an end that loaded a far word
pub record HandIs (f : Fields) (h : Hand) : Type 0 where
  pub first : first_of h ≡ f.place
  pub bound : bound_of h ≡ f.bound

hand_as_is : (side : Side) (state : EndState) (f : Fields) (x : Lying) → is_on_state state ≡ true → HandIs f (hand_as side state f x)
hand_as_is side Out f x on = cc
hand_as_is Tx Up f x on = record { first = refl; bound = refl }
hand_as_is Rx Up f x on = record { first = refl; bound = refl }
hand_as_is Tx Closing f x on = record { first = refl; bound = refl }
hand_as_is Rx Closing f x on = record { first = refl; bound = refl }

pub hand_is : (f : Fields) (v : Known) (x : Lying) → FieldsFit f v x → is_on_state f.state ≡ true → f.loaded ≡ true → HandIs f v.hand
hand_is f v x t on loaded =
    subst (HandIs f) (sym (t.hand ∙ ap (λ b. hand_by b f (lies_in v.hand)) loaded)) (hand_as_is f.side f.state f (lies_in v.hand) on)

-- the slot of the next position is out with the end
pub slot_out : (f : Fields) (m : Me Lying View) → IsEnd f m → is_on_state f.state ≡ true → f.loaded ≡ true → f.place < f.bound
    → m.1 ≡ (f.place % 1024, carry (known_of m.0).hand (half_by f.half (known_of m.0).hand (load_of m.1))) ∷ rest m.1
slot_out f m inv on loaded lt =
    let h : Hand = (known_of m.0).hand in
    let half : Half = half_by f.half h (load_of m.1) in
    let is = hand_is f (known_of m.0) (load_of m.1) inv.fit on loaded in
    let out : m.1 ≡ out_of h half = ap (λ u. u.1) inv.me in
    let lent : lends h ≡ true = lt-ltb (first_of h) (bound_of h) (omega (arith, is.first, is.bound, lt)) in
    let one : m.1 ≡ (f.place % 1024, carry h half) ∷ [] = out ∙ ap₂ (λ b a. if_out b (a % 1024) (carry h half)) lent is.first in
    one ∙ ap (λ r. (f.place % 1024, carry h half) ∷ r) (sym (ap rest one))

pub slot_out_at : (f : Fields) (m : Me Lying View) (slot : ℕ) → IsEnd f m → is_on_state f.state ≡ true → f.loaded ≡ true → f.place < f.bound → slot ≡ f.place % 1024
    → (x : Lying) × (m.1 ≡ (slot, x) ∷ rest m.1)
slot_out_at f m slot inv on loaded lt e =
    let x : Lying = carry (known_of m.0).hand (half_by f.half (known_of m.0).hand (load_of m.1)) in
    (x, slot_out f m inv on loaded lt ∙ ap (λ k. (k, x) ∷ rest m.1) (sym e))

pub record Reaches (loaded : Bool) (place bound : ℕ) : Type 0 where
  pub loaded_is : loaded ≡ true
  pub within : place < bound

pub reaches : (loaded : Bool) (place bound : ℕ) → 0 < unwrap_or (reach_by loaded place bound) 0 → Reaches loaded place bound
reaches true place bound lt = record { loaded_is = refl; within = omega (arith, lt) }
reaches false place bound lt = absurd (omega (arith, lt))

pub loaded_if : (loaded : Bool) (place bound : ℕ) → IsSome (reach_by loaded place bound) → loaded ≡ true
loaded_if true place bound some' = refl
loaded_if false place bound some' = cc

pub on_if_up : (state : EndState) → state ≡ Up → is_on_state state ≡ true
on_if_up state e = ap is_on_state e

pub on_if_closes : (state : EndState) → state ≡ Closing → is_on_state state ≡ true
on_if_closes state e = ap is_on_state e

-- an end reads: the receiver that is up, or the closing end
abbrev pub reads_now : Side → EndState → Bool
reads_now side Out = false
reads_now Tx Up = false
reads_now Rx Up = true
reads_now side Closing = true

reading_hand : (side : Side) (state : EndState) (f : Fields) (x : Lying) → reads_now side state ≡ true → hand_as side state f x ≡ Reading f.place f.bound x
reading_hand side Out f x e = cc
reading_hand Tx Up f x e = cc
reading_hand Rx Up f x e = refl
reading_hand Tx Closing f x e = refl
reading_hand Rx Closing f x e = refl

pub reads_hand : (f : Fields) (v : Known) (x : Lying) → FieldsFit f v x → reads_now f.side f.state ≡ true → f.loaded ≡ true → v.hand ≡ Reading f.place f.bound (lies_in v.hand)
reads_hand f v x t reads loaded = t.hand ∙ ap (λ b. hand_by b f (lies_in v.hand)) loaded ∙ reading_hand f.side f.state f (lies_in v.hand) reads

pub writes_hand : (f : Fields) (v : Known) (x : Lying) → FieldsFit f v x → f.side ≡ Tx → f.state ≡ Up → f.loaded ≡ true → v.hand ≡ Writing f.place f.bound
writes_hand f v x t side is_state loaded = t.hand ∙ ap (λ b. hand_by b f (lies_in v.hand)) loaded ∙ ap₂ (λ a b. hand_as a b f (lies_in v.hand)) side is_state

pub something : (x : Lying) → IsSome x → (p : PacketState) × (x ≡ Some p)
something None e = cc
something (Some p) e = (p, refl)

pub full_hand : (v : Known) (first bound : ℕ) → HandFull v.hand → v.hand ≡ Reading first bound (lies_in v.hand) → first < bound → IsSome (lies_in v.hand)
full_hand v first bound full is lt = let f : HandFull (Reading first bound (lies_in v.hand)) = subst HandFull is full in f lt

-- the packet that lies there, where the end reads
pub reads_packet : (f : Fields) (v : Known) (x : Lying) → FieldsFit f v x → reads_now f.side f.state ≡ true → f.loaded ≡ true → f.place < f.bound → (p : PacketState) × (lies_in v.hand ≡ Some p)
reads_packet f v x t reads loaded lt = something (lies_in v.hand) (full_hand v f.place f.bound t.full (reads_hand f v x t reads loaded) lt)

rx_up_reads : (side : Side) (state : EndState) → side ≡ Rx → state ≡ Up → reads_now side state ≡ true
rx_up_reads side state a b = ap₂ reads_now a b

closing_reads : (side : Side) (state : EndState) → state ≡ Closing → reads_now side state ≡ true
closing_reads Tx state e = ap (reads_now Tx) e
closing_reads Rx state e = ap (reads_now Rx) e

-- what a half-done end has half done
laid_half : (f : Fields) (v : Known) (x : Lying) → FieldsFit f v x → f.side ≡ Tx → f.state ≡ Up → f.half ≡ true → (p : PacketState) → x ≡ Some p → half_by f.half v.hand x ≡ laid p
laid_half f v x t side is_state half p e = ap₂ (λ b h. half_by b h x) half (writes_hand f v x t side is_state (t.knows half)) ∙ ap laid_as e

taken_half : (f : Fields) (v : Known) (x : Lying) → FieldsFit f v x → reads_now f.side f.state ≡ true → f.half ≡ true → half_by f.half v.hand x ≡ taken
taken_half f v x t reads half = ap₂ (λ b h. half_by b h x) half (reads_hand f v x t reads (t.knows half))

-- THE RING'S STEPS

pub see_allowed : (slots id : ℕ) (f : Fields) (m : Me Lying View) → IsEnd f m → f.side ≡ Rx → if_ready f.state f.synced ≡ true → f.half ≡ false → Allows Rule slots id m 1 (λ n. n) (SeePlay (step slots 1 0 0 none) m)
see_allowed slots id f m inv side ready no_half =
    let t = inv.fit in
    let v = known_of m.0 in
    let r = by f.state t.closing_synced ready in
    allowed slots id f m idle 1 (λ n. n) (SeePlay (step slots 1 0 0 none)) inv (ap (λ b. half_by b v.hand (load_of m.1)) no_half)
    (subst (λ x. Steps x v idle 1 (λ n. n) (SeePlay (step slots 1 0 0 none) (One x v, out_of v.hand idle))) (sym side)
    (see_steps slots v f.place (ap is_on_state t.state ∙ r.0) (t.place ∙ ap (λ x. place_by x f.state f) side ∙ rx_place f.state f r.1)))
  where
    by : (state : EndState) → (state ≡ Closing → f.synced ≡ true) → if_ready state f.synced ≡ true → (is_on_state state ≡ true) × (f.synced ≡ true)
    by Out closing' e = cc
    by Up closing' e = (refl, e)
    by Closing closing' e = (refl, closing' refl)

    rx_place : (state : EndState) (f : Fields) → f.synced ≡ true → place_by Rx state f ≡ Some f.place
    rx_place Out f e = ap (λ b. if_synced b f.place) e
    rx_place Up f e = ap (λ b. if_synced b f.place) e
    rx_place Closing f e = ap (λ b. if_synced b f.place) e

pub put_allowed : (slots id : ℕ) (f : Fields) (m : Me Lying View) (next : ℕ) → IsEnd f m → f.side ≡ Tx → f.state ≡ Up → f.half ≡ true → next ≡ f.place + 1
    → Allows Rule slots id m 1 (λ _. next) (λ _. PutPlay (step slots 1 next 0 none) m next)
put_allowed slots id f m next inv side is_state half next_is =
    let t = inv.fit in
    let v = known_of m.0 in
    let r = t.is_laid half side is_state in
    subst (λ w. Allows Rule slots id m 1 (λ _. w) (λ _. PutPlay (step slots 1 w 0 none) m w)) (sym next_is)
    (allowed slots id f m (laid r.packet) 1 (λ _. f.place + 1) (λ u _. PutPlay (step slots 1 (f.place + 1) 0 none) u (f.place + 1)) inv
    (laid_half f v (load_of m.1) t side is_state half r.packet r.what)
    (subst (λ x. Steps x v (laid r.packet) 1 (λ _. f.place + 1) (λ _. PutPlay (step slots 1 (f.place + 1) 0 none) (One x v, out_of v.hand (laid r.packet)) (f.place + 1))) (sym side)
    (put_steps slots v f.place f.bound r.packet (writes_hand f v (load_of m.1) t side is_state (t.knows half)) (t.half half))))

pub release_allowed : (slots id : ℕ) (f : Fields) (m : Me Lying View) (next : ℕ) → IsEnd f m → f.side ≡ Rx → f.state ≡ Up → f.half ≡ true → next ≡ f.place + 1
    → Allows Rule slots id m 2 (λ _. next) (λ _. TakePlay (step slots 2 next 0 none) m next)
release_allowed slots id f m next inv side is_state half next_is =
    let t = inv.fit in
    let v = known_of m.0 in
    let reads = rx_up_reads f.side f.state side is_state in
    let p = reads_packet f v (load_of m.1) t reads (t.knows half) (t.half half) in
    subst (λ w. Allows Rule slots id m 2 (λ _. w) (λ _. TakePlay (step slots 2 w 0 none) m w)) (sym next_is)
    (allowed slots id f m taken 2 (λ _. f.place + 1) (λ u _. TakePlay (step slots 2 (f.place + 1) 0 none) u (f.place + 1)) inv
    (taken_half f v (load_of m.1) t reads half)
    (subst (λ x. Steps x v taken 2 (λ _. f.place + 1) (λ _. TakePlay (step slots 2 (f.place + 1) 0 none) (One x v, out_of v.hand taken) (f.place + 1))) (sym side)
    (take_steps slots v f.place f.bound p.0 (t.state ∙ is_state) (reads_hand f v (load_of m.1) t reads (t.knows half) ∙ ap (Reading f.place f.bound) p.1) (t.half half))))

pub drain_allowed : (slots id : ℕ) (f : Fields) (m : Me Lying View) (next : ℕ) → IsEnd f m → f.state ≡ Closing → f.half ≡ true → next ≡ f.place + 1
    → Allows Rule slots id m 2 (λ _. next) (λ _. DrainPlay (step slots 2 next 0 none) m next)
drain_allowed slots id f m next inv is_state half next_is =
    let t = inv.fit in
    let v = known_of m.0 in
    let reads = closing_reads f.side f.state is_state in
    let p = reads_packet f v (load_of m.1) t reads (t.knows half) (t.half half) in
    subst (λ w. Allows Rule slots id m 2 (λ _. w) (λ _. DrainPlay (step slots 2 w 0 none) m w)) (sym next_is)
    (allowed slots id f m taken 2 (λ _. f.place + 1) (λ u _. DrainPlay (step slots 2 (f.place + 1) 0 none) u (f.place + 1)) inv
    (taken_half f v (load_of m.1) t reads half)
    (drain_steps slots f.side v f.place f.bound p.0 (t.state ∙ is_state) (reads_hand f v (load_of m.1) t reads (t.knows half) ∙ ap (Reading f.place f.bound) p.1) (t.half half)))
