-- How places move: a packet comes to a place, goes from it, is written there, or is sent or received, and what follows for others.
use Rattle.std.proofs.Common.{◌≡◌, ◌≢◌, ℕ, ◌+◌, ◌<◌, ◌≤◌, List, [], ◌∷◌, Option, None, IsSome, refl, sym, ap, subst, ◌∙◌, inl, inr, arith}
use mathlib.Core.Path.{fun_ext}
use Rattle.std.proofs.lemmas.Bool.{cases_eq, false≢true}
use Rattle.std.proofs.lemmas.Bool.Decides.{eqb_tells}
use Rattle.sn_link.specs.Link.{Line}
use Rattle.sn_packet.specs.Hold.{among}
use Rattle.sn_app.specs.Desk.{Tray, Queue}
use Rattle.sn_app.specs.Runs.{Moves}
use Rattle.sn_app.specs.World.{Used, World, world, IsSound, desk_of, queue_in, in_slots, nowhere, ◌⊕◌}
use Rattle.sn_app.proofs.Places.{among_one, among_one_other}
use Rattle.sn_app.proofs.Slots.{queues_same, all_misfits_same}

-- the same places, counted otherwise
pub sound_as : {w : World} {f g : ℕ → ℕ} → ((place : ℕ) → g place ≡ f place) → IsSound w f → IsSound w g
sound_as {w} {f} {g} same h = record {
  once = λ place. omega (arith, h.once place, same place);
  in_use = λ place k. h.in_use place (omega (arith, same place, k));
  lengths = h.lengths;
  rows = h.rows;
}

-- something is not nothing
pub something : {A : Type 0} (x y : Option A) → IsSome x → x ≡ y → IsSome y
something x y some e = subst (λ o. IsSome o) e some

-- a place whose packet isn't there is nobody's
pub nobodys : (w : World) (mine : ℕ → ℕ) (place : ℕ) → IsSound w mine → w.used place ≡ None → mine place + in_slots w.slots place ≡ 0
nobodys w mine place h none = elim (eqb_tells (mine place + in_slots w.slots place) 0) [
  | inl is ↦ is.1
  | inr apart ↦ absurd (false≢true (something (w.used place) None (h.in_use place (omega (arith, apart.1))) none))
]

module _ (tray later : Tray) (used after : Used) (slots : List (Option Line)) where
  -- packets change that aren't queued
  pub sound_used : (mine others : ℕ → ℕ) → IsSound (world tray used slots) mine
      → ((place : ℕ) → 0 < in_slots slots place → after place ≡ used place)
      → ((place : ℕ) → others place + in_slots slots place ≤ 1)
      → ((place : ℕ) → 0 < others place → IsSome (after place))
      → IsSound (world later after slots) others
  sound_used mine others h same once in_use = record {
    once = once;
    in_use = λ place k. elim (eqb_tells (in_slots slots place) 0) [
      | inl is ↦ in_use place (omega (arith, is.1))
      | inr apart ↦
          something (used place) (after place) (h.in_use place (omega (arith, apart.1))) (sym (same place (omega (arith, apart.1))))
    ];
    lengths = all_misfits_same used after slots same ∙ h.lengths;
    rows = h.rows;
  }

  -- and no desk shows it
  pub desk_used : ((place : ℕ) → 0 < in_slots slots place → after place ≡ used place)
      → desk_of (world later after slots) ≡ record { tray = later; queues = queue_in used slots }
  unfolding desk_of
  desk_used same =
      ap (λ (queues : ℕ → Option Queue). record { tray = later; queues = queues })
      (fun_ext (λ row. queues_same used after slots row same))

  -- a packet comes to a place that nobody has
  module _ (place : ℕ) (none : used place ≡ None) (some : IsSome (after place)) (rest : (q : ℕ) → q ≢ place → after q ≡ used q) where
    pub untouched_fresh : (mine : ℕ → ℕ) → IsSound (world tray used slots) mine → (q : ℕ) → 0 < mine q + in_slots slots q → after q ≡ used q
    untouched_fresh mine h q k = rest q (λ e. absurd (false≢true (something (used q) None (h.in_use q k) (ap used e ∙ none))))

    pub moves_fresh : (mine : ℕ → ℕ) → Moves (world tray used slots) (world later after slots) mine (mine ⊕ among (place ∷ []))
    moves_fresh mine = record {
      sound = λ others h.
          sound_used (mine ⊕ others) ((mine ⊕ among (place ∷ [])) ⊕ others) h
          (λ q k. untouched_fresh (mine ⊕ others) h q (omega (arith, k)))
          (λ q. elim (cases_eq q place) [
            | inl e ↦
                let P : ℕ → Type 0 = λ p. (mine p + among (place ∷ []) p + others p) + in_slots slots p ≤ 1 in
                subst P (sym e) (omega (arith, among_one place, nobodys (world tray used slots) (mine ⊕ others) place h none))
            | inr differs ↦ omega (arith, among_one_other place q differs, h.once q)
          ])
          (λ q k. elim (cases_eq q place) [
            | inl e ↦ let P : ℕ → Type 0 = λ p. IsSome (after p) in subst P (sym e) some
            | inr differs ↦
                something (used q) (after q) (h.in_use q (omega (arith, k, among_one_other place q differs))) (sym (rest q differs))
          ]);
      kept = λ others h q k. untouched_fresh (mine ⊕ others) h q (omega (arith, k));
    }

  -- what happens at a place of one's own touches no other
  module _ (place : ℕ) (rest : (q : ℕ) → q ≢ place → after q ≡ used q) where
    pub untouched_own : (others : ℕ → ℕ) → IsSound (world tray used slots) (among (place ∷ []) ⊕ others) → (q : ℕ)
        → 0 < others q + in_slots slots q → after q ≡ used q
    untouched_own others h q k = rest q (λ e.
        let P : ℕ → Type 0 = λ p. others p + in_slots slots p ≡ 0 in
        let none : others q + in_slots slots q ≡ 0 = subst P (sym e) (omega (arith, among_one place, h.once place)) in
        absurd (omega (arith, none, k)))

    -- the packet goes from its place
    pub moves_gone : Moves (world tray used slots) (world later after slots) (among (place ∷ [])) nowhere
    moves_gone = record {
      sound = λ others h.
          sound_used (among (place ∷ []) ⊕ others) (nowhere ⊕ others) h
          (λ q k. untouched_own others h q (omega (arith, k)))
          (λ q. omega (arith, h.once q))
          (λ q k. something (used q) (after q) (h.in_use q (omega (arith, k))) (sym (untouched_own others h q (omega (arith, k)))));
      kept = λ others h q k. untouched_own others h q (omega (arith, k));
    }

    -- the packet is written at its place
    pub moves_written : IsSome (after place) → Moves (world tray used slots) (world later after slots) (among (place ∷ [])) (among (place ∷ []))
    moves_written some = record {
      sound = λ others h.
          sound_used (among (place ∷ []) ⊕ others) (among (place ∷ []) ⊕ others) h
          (λ q k. untouched_own others h q (omega (arith, k)))
          (λ q. h.once q)
          (λ q k. elim (cases_eq q place) [
            | inl e ↦ let P : ℕ → Type 0 = λ p. IsSome (after p) in subst P (sym e) some
            | inr differs ↦ something (used q) (after q) (h.in_use q (omega (arith, k))) (sym (rest q differs))
          ]);
      kept = λ others h q k. untouched_own others h q (omega (arith, k));
    }

-- the tray alone changes
pub moves_still : (tray later : Tray) (used : Used) (slots : List (Option Line)) (mine : ℕ → ℕ)
    → Moves (world tray used slots) (world later used slots) mine mine
moves_still tray later used slots mine = record {
  sound = λ others h. record { once = h.once; in_use = h.in_use; lengths = h.lengths; rows = h.rows };
  kept = λ others h q k. refl;
}

pub moves_same : (w : World) (mine : ℕ → ℕ) → Moves w w mine mine
moves_same w mine = record { sound = λ others h. h; kept = λ others h q k. refl }

pub moves_then : {w v z : World} {before mid after : ℕ → ℕ} → Moves w v before mid → Moves v z mid after → Moves w z before after
moves_then f g = record {
  sound = λ others h. g.sound others (f.sound others h);
  kept = λ others h q k. g.kept others (f.sound others h) q k ∙ f.kept others h q k;
}

-- other places stand beside those that move
pub moves_beside : {w v : World} {before after : ℕ → ℕ} (beside : ℕ → ℕ) → Moves w v before after → Moves w v (before ⊕ beside) (after ⊕ beside)
moves_beside {w} {v} {before} {after} beside f = record {
  sound = λ others h.
      let inner : IsSound w (before ⊕ (beside ⊕ others)) = sound_as (λ q. omega arith) h in
      let outer : IsSound v ((after ⊕ beside) ⊕ others) = sound_as (λ q. omega arith) (f.sound (beside ⊕ others) inner) in
      outer;
  kept = λ others h q k.
      let inner : IsSound w (before ⊕ (beside ⊕ others)) = sound_as (λ q. omega arith) h in
      f.kept (beside ⊕ others) inner q (omega (arith, k));
}

-- the same places, counted otherwise
pub moves_as : {w v : World} {before after : ℕ → ℕ} (earlier later : ℕ → ℕ) → ((q : ℕ) → earlier q ≡ before q) → ((q : ℕ) → later q ≡ after q)
    → Moves w v before after → Moves w v earlier later
moves_as {w} {v} {before} {after} earlier later first last f = record {
  sound = λ others h.
      let inner : IsSound w (before ⊕ others) = sound_as (λ q. omega (arith, first q)) h in
      let outer : IsSound v (later ⊕ others) = sound_as (λ q. omega (arith, last q)) (f.sound others inner) in
      outer;
  kept = λ others h q k.
      let inner : IsSound w (before ⊕ others) = sound_as (λ q. omega (arith, first q)) h in
      f.kept others inner q k;
}

-- the world stays sound
pub sound_moved : {w v : World} {before after : ℕ → ℕ} → Moves w v before after → IsSound w before → IsSound v after
sound_moved {w} {v} {before} {after} f h =
    let inner : IsSound w (before ⊕ nowhere) = sound_as (λ q. omega arith) h in
    sound_as (λ q. omega arith) (f.sound nowhere inner)
