-- The ends, with one of them changed.
use Rattle.std.proofs.Common.{◌≡◌, ℕ, ◌==◌, ◌&&◌, Bool, true, false, cond, refl, sym, ap, ◌∙◌, inl, inr}
use Rattle.std.proofs.lemmas.Bool.{eq-eqb}
use Rattle.std.proofs.lemmas.Bool.Decides.{eqb_tells}
use Rattle.sn_core.specs.declared.events.Side.{Side}
use Rattle.sn_core.specs.declared.events.Side.TheVariants.{Tx, Rx}
use Rattle.sn_packet.specs.Packet.{PacketState}
use Rattle.sn_app.specs.Desk.{End, all_published, same_side, set_end, with_laid}

one_side : (side : Side) → same_side side side ≡ true
one_side Tx = refl
one_side Rx = refl

-- the end that was changed
pub set_end_at : (lane : ℕ) (side : Side) (end : End) (ends : ℕ → Side → End) → set_end lane side end ends lane side ≡ end
set_end_at lane side end ends = rw (eq-eqb lane lane refl, one_side side) refl

-- an end that becomes what it was
side_kept : (lane : ℕ) (side that : Side) (ends : ℕ → Side → End)
    → cond (same_side that side) (ends lane side) (ends lane that) ≡ ends lane that
side_kept lane Tx Tx ends = refl
side_kept lane Tx Rx ends = refl
side_kept lane Rx Tx ends = refl
side_kept lane Rx Rx ends = refl

pub set_end_kept : (lane : ℕ) (side : Side) (ends : ℕ → Side → End) → set_end lane side (ends lane side) ends ≡ ends
set_end_kept lane side ends = λ i other that. at other that i
  where
    at : (other : ℕ) (that : Side) → set_end lane side (ends lane side) ends other that ≡ ends other that
    at other that =
        elim (eqb_tells other lane) [
          | inl same ↦ rw (same.0, same.1) (side_kept lane side that ends)
          | inr differs ↦ rw differs.0 refl
        ]

-- an end that changes twice
cond_twice : (b : Bool) (x y z : End) → cond b x (cond b y z) ≡ cond b x z
cond_twice true x y z = refl
cond_twice false x y z = refl

pub set_end_twice : (lane : ℕ) (side : Side) (end between : End) (ends : ℕ → Side → End)
    → set_end lane side end (set_end lane side between ends) ≡ set_end lane side end ends
set_end_twice lane side end between ends = λ i other that. at other that i
  where
    at : (other : ℕ) (that : Side)
        → set_end lane side end (set_end lane side between ends) other that ≡ set_end lane side end ends other that
    at other that = cond_twice (other == lane && same_side that side) end between (ends other that)

-- one end alone changed
pub only_end : (lane : ℕ) (side : Side) (end : End) (before after : ℕ → Side → End) → after ≡ set_end lane side end before
    → after ≡ set_end lane side (after lane side) before
only_end lane side end before after changed =
    let now : after lane side ≡ end = ap (λ f. f lane side) changed ∙ set_end_at lane side end before in
    changed ∙ ap (λ e. set_end lane side e before) (sym now)

pub no_end : (lane : ℕ) (side : Side) (before after : ℕ → Side → End) → after ≡ before
    → after ≡ set_end lane side (after lane side) before
no_end lane side before after same =
    same ∙ (sym (set_end_kept lane side before) ∙ ap (λ f. set_end lane side (f lane side) before) (sym same))

-- one end changes, and changes again
pub change_twice : (lane : ℕ) (side : Side) (f g : End → End) (ends : ℕ → Side → End)
    → set_end lane side (g (set_end lane side (f (ends lane side)) ends lane side)) (set_end lane side (f (ends lane side)) ends)
    ≡ set_end lane side (g (f (ends lane side))) ends
change_twice lane side f g ends =
    let first : ℕ → Side → End = set_end lane side (f (ends lane side)) ends in
    ap (λ e. set_end lane side (g e) first) (set_end_at lane side (f (ends lane side)) ends)
    ∙ set_end_twice lane side (g (f (ends lane side))) (f (ends lane side)) ends

-- a packet is laid at an end, after room was made; and it is published
module _ (lane : ℕ) (packet : PacketState) (ends : ℕ → Side → End) {roomy laid : ℕ → Side → End} (same : roomy ≡ ends)
    (lays : laid ≡ set_end lane Tx (with_laid packet (roomy lane Tx)) roomy) where
  pub laid_ends : laid ≡ set_end lane Tx (with_laid packet (ends lane Tx)) ends
  laid_ends = lays ∙ ap (λ f. set_end lane Tx (with_laid packet (f lane Tx)) f) same

  pub published_ends : {after : ℕ → Side → End} → after ≡ set_end lane Tx (all_published (laid lane Tx)) laid
      → after ≡ set_end lane Tx (all_published (with_laid packet (ends lane Tx))) ends
  published_ends publishes =
      publishes
      ∙ (ap (λ f. set_end lane Tx (all_published (f lane Tx)) f) laid_ends
      ∙ change_twice lane Tx (with_laid packet) all_published ends)
