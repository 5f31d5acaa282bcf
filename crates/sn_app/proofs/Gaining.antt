-- The packets by their places, where one comes to a place and is written or freed in the same turn.
use Rattle.std.proofs.Common.{◌≡◌, ◌≢◌, ℕ, ◌==◌, Bool, true, false, cond, List, Option, Some, None, IsSome, Result, Ok, unwrap_or, refl, sym, ap, ◌∙◌, inl, inr}
use Rattle.std.proofs.lemmas.Bool.Decides.{eqb_tells}
use Rattle.sn_packet.specs.Hold.{Held, among, at_of, put_at, used_of}
use Rattle.sn_packet.specs.Packet.{PacketState, no_packet, with_bytes}
use Rattle.sn_packet.proofs.Puts.{put_at_other, put_at_same, some_laid}
use Rattle.sn_app.specs.Calls.{IsFresh}
use Rattle.sn_app.specs.World.{packet_at}
use Rattle.sn_app.specs.declared.halt.Halt.{Halt}

-- the answer of a call that laid a packet
abbrev pub laid_at : ℕ → Result ℕ Halt
laid_at place = Ok place

cond_again : {A : Type 0} (b : Bool) (x y z : A) → cond b x (cond b y z) ≡ cond b x z
cond_again true x y z = refl
cond_again false x y z = refl

pub put_at_twice : {A : Type 0} (place : ℕ) (x y : A) (values : ℕ → A)
    → put_at place x (put_at place y values) ≡ put_at place x values
put_at_twice place x y values = λ i other. cond_again (other == place) x y (values other) i

-- a place becomes what it was
pub put_at_kept : {A : Type 0} (place : ℕ) (x : A) (values : ℕ → A) → values place ≡ x → put_at place x values ≡ values
put_at_kept place x values was = λ i other. at other i
  where
    at : (other : ℕ) → put_at place x values other ≡ values other
    at other =
        elim (eqb_tells other place) [
          | inl same ↦ rw same.0 (sym was ∙ ap values (sym same.1))
          | inr differs ↦ rw differs.0 refl
        ]

-- no packet is used where none is held
pub none_used : (free : Bool) (slot : Option PacketState) → slot ≡ None → cond free slot None ≡ None
none_used true slot vacant = vacant
none_used false slot vacant = refl

-- a packet comes to a place, and is freed there
pub gained : (used laid freed : ℕ → Option PacketState) (place : ℕ) (packet : PacketState) → used place ≡ None
    → laid ≡ put_at place (Some packet) used → freed ≡ put_at place None laid → freed ≡ used
gained used laid freed place packet none came went =
    went ∙ (ap (put_at place None) came ∙ (put_at_twice place None (Some packet) used ∙ put_at_kept place None used none))

-- a packet comes to a place, and is written there
pub filled : (used laid written : ℕ → Option PacketState) (place : ℕ) (packet : PacketState) (slot : Option PacketState)
    (bytes : List ℕ)
    → slot ≡ Some packet → laid ≡ put_at place (Some packet) used
    → written ≡ put_at place (Some (with_bytes bytes (unwrap_or slot no_packet))) laid
    → written ≡ put_at place (Some (with_bytes bytes packet)) used
filled used laid written place packet slot bytes held came wrote =
    wrote
    ∙ (ap (λ s. put_at place (Some (with_bytes bytes (unwrap_or s no_packet))) laid) held
    ∙ (ap (put_at place (Some (with_bytes bytes packet))) came
    ∙ put_at_twice place (Some (with_bytes bytes packet)) (Some packet) used))

-- a packet that is used is held
pub used_held : (free : Bool) (slot : Option PacketState) → IsSome (cond free slot None) → cond free slot None ≡ slot
used_held true slot used = refl
used_held false slot used = absurd cc

-- the packet that was lifted is the one that was used there
pub lifted : (held : Held) (place : ℕ) (packet : PacketState) → IsSome (used_of held place) → at_of held place ≡ Some packet
    → packet_at (used_of held) place ≡ packet
lifted held place packet used there =
    ap (λ o. unwrap_or o no_packet) (used_held (among held.free place == 0) (at_of held place) used ∙ there)

-- and other places stay
pub others_gone : (before after : ℕ → Option PacketState) (place : ℕ) → after ≡ put_at place None before
    → (q : ℕ) → q ≢ place → after q ≡ before q
others_gone before after place gone q differs = ap (λ f. f q) gone ∙ put_at_other place None before q differs

-- a packet came to a fresh place, in a hold that has the same used packets as one before it
pub fresh_laid : (before middle after : ℕ → Option PacketState) (place : ℕ) (packet : PacketState) → middle ≡ before
    → middle place ≡ None → after ≡ put_at place (Some packet) middle → IsFresh before after place
fresh_laid before middle after place packet same none laid = record {
  none = ap (λ f. f place) (sym same) ∙ none;
  some = some_laid middle after place packet laid;
}

pub others_laid : (before middle after : ℕ → Option PacketState) (place : ℕ) (packet : PacketState) → middle ≡ before
    → after ≡ put_at place (Some packet) middle → (q : ℕ) → (laid_at place ≡ laid_at q → ⊥) → after q ≡ before q
others_laid before middle after place packet same laid q differs =
    ap (λ f. f q) laid ∙ (put_at_other place (Some packet) middle q (λ e. differs (ap laid_at (sym e))) ∙ ap (λ f. f q) same)

pub packet_laid : (middle after : ℕ → Option PacketState) (place : ℕ) (packet : PacketState)
    → after ≡ put_at place (Some packet) middle → packet_at after place ≡ packet
packet_laid middle after place packet laid =
    ap (λ o. unwrap_or o no_packet) (ap (λ f. f place) laid ∙ put_at_same place (Some packet) middle)
