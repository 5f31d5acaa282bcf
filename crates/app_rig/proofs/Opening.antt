-- A link comes into the slots, at a key that had none.
use Rattle.std.proofs.Common.{List, None, Option, Some, IsSome, [], ap, arith, get_or, length, refl, subst, suc, sym, zero, Bool, true, false, ℕ, ◌+◌, ◌<◌, ◌≤◌, ◌∙◌, ◌∷◌, ◌==◌, ◌≡◌, ◌≢◌, if◌then◌else◌}
use Rattle.std.proofs.lemmas.Bool.{cases_eq, eqb-true, eq-eqb, true≢false}
use Rattle.std.proofs.lemmas.List.Sums.{sum_by-cons}
use Rattle.std.specs.List.{sum_by}
use Rattle.sn_link.specs.Link.{Line, new_line}
use Rattle.sn_app.specs.Desk.{Tray}
use Rattle.sn_app.specs.World.{IsSound, Used, has_row, in_slot, in_slots, misfits, misfits_of, nowhere, rows_in, world}
use Rattle.sn_app.specs.Ports.{KeepsRows}
use Rattle.app_rig.specs.Links.{AreLinked, KeepsSound}

abbrev is_there : {X : Type 0} → Option X → Bool
is_there None = false
is_there (Some x) = true

module _ {X : Type 0} (f : Option X → ℕ) (none : f None ≡ 0) where
  same_sum : (old new : List (Option X)) → ((k : ℕ) → get_or new k None ≡ get_or old k None) → sum_by f new ≡ sum_by f old
  same_sum [] [] h = refl
  same_sum [] (n ∷ ns) h =
      let a : f n ≡ 0 = ap f (h 0) ∙ none in
      let b : sum_by f ns ≡ 0 = same_sum [] ns (λ k. h (suc k)) in
      let c : sum_by f (n ∷ ns) ≡ f n + sum_by f ns = sum_by-cons f n ns in
      omega (arith, a, b, c)
  same_sum (o ∷ os) [] h =
      let a : f o ≡ 0 = ap f (sym (h 0)) ∙ none in
      let b : 0 ≡ sum_by f os = same_sum os [] (λ k. h (suc k)) in
      let c : sum_by f (o ∷ os) ≡ f o + sum_by f os = sum_by-cons f o os in
      omega (arith, a, b, c)
  same_sum (o ∷ os) (n ∷ ns) h =
      let a : f n ≡ f o = ap f (h 0) in
      let b : sum_by f ns ≡ sum_by f os = same_sum os ns (λ k. h (suc k)) in
      let c : sum_by f (n ∷ ns) ≡ f n + sum_by f ns = sum_by-cons f n ns in
      let d : sum_by f (o ∷ os) ≡ f o + sum_by f os = sum_by-cons f o os in
      omega (arith, a, b, c, d)

  sum_opened : (old new : List (Option X)) (key : ℕ) (x : X) → get_or old key None ≡ None → get_or new key None ≡ Some x
      → ((other : ℕ) → other ≢ key → get_or new other None ≡ get_or old other None) → sum_by f new ≡ sum_by f old + f (Some x)
  sum_opened old [] key x was is others = absurd (true≢false (sym (ap is_there is)))
  sum_opened [] (n ∷ ns) zero x was is others =
      let a : f n ≡ f (Some x) = ap f is in
      let b : sum_by f ns ≡ 0 = same_sum [] ns (λ k. others (suc k) (λ e. omega (arith, e))) in
      let c : sum_by f (n ∷ ns) ≡ f n + sum_by f ns = sum_by-cons f n ns in
      let d : sum_by f [] ≡ 0 = refl in
      omega (arith, a, b, c, d)
  sum_opened [] (n ∷ ns) (suc key) x was is others =
      let a : f n ≡ 0 = ap f (others 0 (λ e. omega (arith, e))) ∙ none in
      let b : sum_by f ns ≡ 0 + f (Some x) = sum_opened [] ns key x was is (λ other h. others (suc other) (λ e. h (let g : other ≡ key = omega (arith, e) in g))) in
      let c : sum_by f (n ∷ ns) ≡ f n + sum_by f ns = sum_by-cons f n ns in
      omega (arith, a, b, c)
  sum_opened (o ∷ os) (n ∷ ns) zero x was is others =
      let a : f n ≡ f (Some x) = ap f is in
      let z : f o ≡ 0 = ap f was ∙ none in
      let b : sum_by f ns ≡ sum_by f os = same_sum os ns (λ k. others (suc k) (λ e. omega (arith, e))) in
      let c : sum_by f (n ∷ ns) ≡ f n + sum_by f ns = sum_by-cons f n ns in
      let d : sum_by f (o ∷ os) ≡ f o + sum_by f os = sum_by-cons f o os in
      omega (arith, a, b, c, d, z)
  sum_opened (o ∷ os) (n ∷ ns) (suc key) x was is others =
      let a : f n ≡ f o = ap f (others 0 (λ e. omega (arith, e))) in
      let b : sum_by f ns ≡ sum_by f os + f (Some x) =
      sum_opened os ns key x was is (λ other h. others (suc other) (λ e. h (let g : other ≡ key = omega (arith, e) in g))) in
      let c : sum_by f (n ∷ ns) ≡ f n + sum_by f ns = sum_by-cons f n ns in
      let d : sum_by f (o ∷ os) ≡ f o + sum_by f os = sum_by-cons f o os in
      omega (arith, a, b, c, d)

module _ (old new : List (Option Line)) (key row : ℕ) (was : get_or old key None ≡ None) (is : get_or new key None ≡ Some (new_line row))
    (others : (other : ℕ) → other ≢ key → get_or new other None ≡ get_or old other None) where
  places_opened : (place : ℕ) → in_slots new place ≡ in_slots old place
  unfolding in_slots in_slot
  places_opened place =
      let e : sum_by (in_slot place) new ≡ sum_by (in_slot place) old + 0 = sum_opened (in_slot place) refl old new key (new_line row) was is others in
      omega (arith, e)

  misfits_opened : (u : Used) → misfits u new ≡ misfits u old
  unfolding misfits misfits_of
  misfits_opened u =
      let e : sum_by (misfits_of u) new ≡ sum_by (misfits_of u) old + 0 = sum_opened (misfits_of u) refl old new key (new_line row) was is others in
      omega (arith, e)

  rows_opened : (other : ℕ) → rows_in other new ≡ rows_in other old + has_row other (Some (new_line row))
  unfolding rows_in has_row
  rows_opened other = sum_opened (has_row other) refl old new key (new_line row) was is others

  pub rows_kept : (other : ℕ) → other ≢ row → rows_in other new ≡ rows_in other old
  unfolding has_row
  rows_kept other apart = by (row == other) refl
    where
      by : (b : Bool) → (row == other) ≡ b → rows_in other new ≡ rows_in other old
      by true e = absurd (apart (sym (eqb-true row other e)))
      by false e =
          let r : rows_in other new ≡ rows_in other old + 0 = rows_opened other ∙ ap (λ (c : Bool). rows_in other old + (if c then 1 else 0)) e in
          omega (arith, r)

  pub sound_kept : rows_in row old ≡ 0 → KeepsSound old new
  unfolding has_row
  sound_kept free t u mine h = record {
    once = λ place. omega (arith, places_opened place, h.once place);
    in_use = λ place k. h.in_use place (omega (arith, places_opened place, k));
    lengths = misfits_opened u ∙ h.lengths;
    rows = λ other. by other (row == other) refl;
  }
    where
      by : (other : ℕ) (b : Bool) → (row == other) ≡ b → rows_in other new ≤ 1
      by other true e =
          let r : rows_in other new ≡ rows_in other old + 1 = rows_opened other ∙ ap (λ (c : Bool). rows_in other old + (if c then 1 else 0)) e in
          let z : rows_in other old ≡ 0 = subst (λ a. rows_in a old ≡ 0) (eqb-true row other e) free in
          omega (arith, r, z)
      by other false e =
          let r : rows_in other new ≡ rows_in other old + 0 = rows_opened other ∙ ap (λ (c : Bool). rows_in other old + (if c then 1 else 0)) e in
          omega (arith, r, h.rows other)

-- no row is among no links
pub no_rows : (row : ℕ) → rows_in row [] ≡ 0
unfolding rows_in
no_rows row = refl

-- a world with no links is sound
pub none_sound : (t : Tray) (u : Used) → IsSound (world t u []) nowhere
unfolding in_slots misfits rows_in
none_sound t u = record {
  once = λ place. omega arith;
  in_use = λ place k. absurd (let z : ⊥ = omega (arith, k) in z);
  lengths = refl;
  rows = λ row. omega arith;
}

-- links stay at their keys
pub linked_then : {old new : List (Option Line)} {some more : ℕ × ℕ} → AreLinked old some more → KeepsRows old new → AreLinked new some more
linked_then {old} {new} {some} {more} h rows = record {
  first = rows.held some.0 h.first;
  second = rows.held some.1 h.second;
  third = rows.held more.0 h.third;
  fourth = rows.held more.1 h.fourth;
}
