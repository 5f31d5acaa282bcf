-- A map with another value at one place, for callers.
use Rattle.std.proofs.Common.{◌≡◌, ◌≢◌, ◌==◌, ℕ, Bool, true, false, cond, Option, Some, IsSome, refl, sym, ap, subst, ◌∙◌}
use Rattle.std.proofs.lemmas.Bool.{eq-eqb, ne_eqb}
use Rattle.sn_packet.specs.Packet.{PacketState}
use Rattle.sn_packet.specs.Hold.{put_at}

pub put_at_same : {A : Type 0} (place : ℕ) (value : A) (values : ℕ → A) → put_at place value values place ≡ value
put_at_same place value values = ap (λ b. cond b value (values place)) (eq-eqb place place refl)

pub put_at_other : {A : Type 0} (place : ℕ) (value : A) (values : ℕ → A) (other : ℕ) → other ≢ place → put_at place value values other ≡ values other
put_at_other place value values other differs = ap (λ b. cond b value (values other)) (ne_eqb other place differs)

pub some_put_at : {A : Type 0} (place : ℕ) (value : Option A) (values : ℕ → Option A) (other : ℕ) → IsSome value → IsSome (values other) → IsSome (put_at place value values other)
some_put_at place value values other there also = by_test (other == place)
  where
    by_test : (same : Bool) → IsSome (cond same value (values other))
    by_test true = there
    by_test false = also

-- after a packet is laid, what was used still is, and so is its place
pub some_at : (before after : ℕ → Option PacketState) (place other : ℕ) (packet : PacketState) → after ≡ put_at place (Some packet) before → IsSome (before other) → IsSome (after other)
some_at before after place other packet laid there =
    let P : (ℕ → Option PacketState) → Type 0 = λ f. IsSome (f other) in
    subst P (sym laid) (some_put_at place (Some packet) before other refl there)

pub some_laid : (before after : ℕ → Option PacketState) (place : ℕ) (packet : PacketState) → after ≡ put_at place (Some packet) before → IsSome (after place)
some_laid before after place packet laid =
    let P : Option PacketState → Type 0 = IsSome in
    subst P (sym (ap (λ f. f place) laid ∙ put_at_same place (Some packet) before)) refl
