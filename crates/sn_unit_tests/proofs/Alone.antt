-- A world with one empty link is sound.
use Rattle.std.proofs.Common.{List, None, Option, Some, [], ap, arith, get_or, refl, suc, sym, zero, Bool, true, false, ℕ}
use Rattle.std.proofs.Common.{◌+◌, ◌≤◌, ◌∙◌, ◌∷◌, ◌==◌, ◌≡◌, ◌≢◌, if◌then◌else◌}
use Rattle.std.proofs.lemmas.Bool.{true≢false}
use Rattle.std.proofs.lemmas.List.Sums.{sum_by-cons}
use Rattle.std.specs.List.{sum_by}
use Rattle.sn_link.specs.Link.{Line, new_line}
use Rattle.sn_app.specs.Desk.{Tray}
use Rattle.sn_app.specs.World.{IsSound, Used, has_row, in_slot, in_slots, misfits, misfits_of, nowhere, rows_in, world}

abbrev is_there : {X : Type 0} → Option X → Bool
is_there None = false
is_there (Some x) = true

module _ {X : Type 0} (f : Option X → ℕ) (none : f None ≡ 0) where
  sum_none : (xs : List (Option X)) → ((k : ℕ) → get_or xs k None ≡ None) → sum_by f xs ≡ 0
  sum_none [] h = refl
  sum_none (x ∷ xs) h =
      let a : f x ≡ 0 = ap f (h 0) ∙ none in
      let b : sum_by f xs ≡ 0 = sum_none xs (λ k. h (suc k)) in
      let c : sum_by f (x ∷ xs) ≡ f x + sum_by f xs = sum_by-cons f x xs in
      omega (arith, a, b, c)

  sum_alone : (xs : List (Option X)) (key : ℕ) (x : X) → get_or xs key None ≡ Some x
      → ((other : ℕ) → other ≢ key → get_or xs other None ≡ None) → sum_by f xs ≡ f (Some x)
  sum_alone [] key x is others = absurd (true≢false (sym (ap is_there is)))
  sum_alone (y ∷ ys) zero x is others =
      let a : f y ≡ f (Some x) = ap f is in
      let b : sum_by f ys ≡ 0 = sum_none ys (λ k. others (suc k) (λ e. omega (arith, e))) in
      let c : sum_by f (y ∷ ys) ≡ f y + sum_by f ys = sum_by-cons f y ys in
      omega (arith, a, b, c)
  sum_alone (y ∷ ys) (suc key) x is others =
      let a : f y ≡ 0 = ap f (others 0 (λ e. omega (arith, e))) ∙ none in
      let b : sum_by f ys ≡ f (Some x) =
      sum_alone ys key x is (λ other h. others (suc other) (λ e. h (let g : other ≡ key = omega (arith, e) in g))) in
      let c : sum_by f (y ∷ ys) ≡ f y + sum_by f ys = sum_by-cons f y ys in
      omega (arith, a, b, c)

module _ (slots : List (Option Line)) (key row : ℕ) (is : get_or slots key None ≡ Some (new_line row))
    (others : (other : ℕ) → other ≢ key → get_or slots other None ≡ None) where
  no_place : (place : ℕ) → in_slots slots place ≡ 0
  unfolding in_slots in_slot
  no_place place = sum_alone (in_slot place) refl slots key (new_line row) is others

  no_misfit : (u : Used) → misfits u slots ≡ 0
  unfolding misfits misfits_of
  no_misfit u = sum_alone (misfits_of u) refl slots key (new_line row) is others

  one_row : (other : ℕ) → rows_in other slots ≤ 1
  unfolding rows_in has_row
  one_row other =
      let e : sum_by (has_row other) slots ≡ has_row other (Some (new_line row)) =
      sum_alone (has_row other) refl slots key (new_line row) is others in
      by (row == other) e
    where
      by : (b : Bool) → sum_by (has_row other) slots ≡ (if b then 1 else 0) → sum_by (has_row other) slots ≤ 1
      by true e = omega (arith, e)
      by false e = omega (arith, e)

  pub alone_sound : (t : Tray) (u : Used) → IsSound (world t u slots) nowhere
  alone_sound t u = record {
    once = λ place. omega (arith, no_place place);
    in_use = λ place k. absurd (let z : ⊥ = omega (arith, no_place place, k) in z);
    lengths = no_misfit u;
    rows = one_row;
  }
