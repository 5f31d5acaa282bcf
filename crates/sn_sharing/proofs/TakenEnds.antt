-- An end is taken out of others.
use Rattle.std.proofs.Common.{◌≡◌, ◌≢◌, ℕ, zero, suc, ◌+◌, ◌<◌, ◌==◌, not, nat_lt, Bool, true, false, cond, List, [], ◌∷◌}
use Rattle.std.proofs.Common.{Some, None, Vec, length, get_or, set, refl, sym, ap, ◌∙◌, inl, inr, arith}
use Rattle.std.proofs.lemmas.Bool.{eqb-true, lt-ltb}
use Rattle.std.proofs.lemmas.Bool.Decides.{eqb_tells}
use Rattle.std.proofs.lemmas.List.Quantifiers.{position-Some}
use Rattle.std.specs.List.{position, position_or_len, remove}
use Rattle.sn_seat.specs.SeatEnds.{Numbered}
use Rattle.sn_seat.specs.declared.seat_end.SeatEnd.{SeatEnd}
use Rattle.sn_sharing.specs.LeftEnds.{end_at, end_of, is_of, lists}

some_within : (number : ℕ) (ends : List Numbered) (end : SeatEnd) → end_of number ends ≡ Some end
    → position_or_len (is_of number) ends < length ends
some_within number [] end there = absurd (let e : None ≡ Some end = there in cc)
some_within number (x ∷ ends) end there = by (x.0 == number) (some_within number ends end) there
  where
    by : (b : Bool) → (end_of number ends ≡ Some end → position_or_len (is_of number) ends < length ends)
        → cond b (Some x.1) (end_of number ends) ≡ Some end
        → cond (not b) (1 + position_or_len (is_of number) ends) 0 < suc (length ends)
    by true more h = omega arith
    by false more h = omega (arith, more h)

-- an end that is there is found
pub not_lost : (number : ℕ) (ends : List Numbered) (end : SeatEnd) → end_of number ends ≡ Some end
    → position (is_of number) ends ≡ None → ⊥
not_lost number ends end there none =
    by (position_or_len (is_of number) ends) (length ends) (some_within number ends end there) none
  where
    by : (a n : ℕ) → a < n → cond (nat_lt a n) (Some a) None ≡ None → ⊥
    by a n lt e =
        let test : nat_lt a n ≡ true = lt-ltb a n lt in
        let some : Some a ≡ None = ap (λ b. cond b (Some a) None) (sym test) ∙ e in cc

first_end : (number : ℕ) (ends : List Numbered) (k : ℕ) (d : Numbered) → k < length ends
    → ((get_or ends k d).0 == number) ≡ true → ((j : ℕ) → j < k → ((get_or ends j d).0 == number) ≡ false)
    → end_of number ends ≡ Some (get_or ends k d).1
first_end number [] k d within at before = absurd (omega (arith, within))
first_end number (x ∷ ends) zero d within at before = rw at refl
first_end number (x ∷ ends) (suc k) d within at before =
    rw (before 0 (omega arith))
    (first_end number ends k d (omega (arith, within)) at (λ j lt. before (suc j) (omega (arith, lt))))

-- the end that a search found is the interlink's
pub found_end : (number : ℕ) (ends : List Numbered) (k : ℕ) (x : Numbered) → position (is_of number) ends ≡ Some k
    → x ≡ get_or ends k x → end_of number ends ≡ Some x.1
found_end number ends k x e read =
    let at = position-Some (is_of number) ends k x e in
    first_end number ends k x at.0 at.1 at.2 ∙ ap (λ (y : Numbered). Some y.1) (sym read)

others_without : (number : ℕ) (ends : List Numbered) (k : ℕ) (d : Numbered) → k < length ends
    → ((get_or ends k d).0 == number) ≡ true → (other : ℕ) → other ≢ number
    → end_of other (remove ends k) ≡ end_of other ends
others_without number [] k d within at other apart = absurd (omega (arith, within))
others_without number (x ∷ ends) zero d within at other apart =
    elim (eqb_tells x.0 other) [
      | inl same ↦ absurd (apart (sym same.1 ∙ eqb-true x.0 number at))
      | inr differs ↦ rw differs.0 refl
    ]
others_without number (x ∷ ends) (suc k) d within at other apart =
    ap (λ e. cond (x.0 == other) (Some x.1) e) (others_without number ends k d (omega (arith, within)) at other apart)

-- where it is taken out, the ends of other interlinks stay
pub others_stay : (number : ℕ) (ends : List Numbered) (k : ℕ) (d : Numbered) → position (is_of number) ends ≡ Some k
    → (other : ℕ) → other ≢ number → end_of other (remove ends k) ≡ end_of other ends
others_stay number ends k d e other apart =
    let at = position-Some (is_of number) ends k d e in others_without number ends k d at.0 at.1 other apart

-- where one worker's end of an interlink is taken out, all other ends of all workers stay
pub others_at : {Z : Type 0} (all : List (Vec Numbered Z)) (worker number : ℕ) (old new : Vec Numbered Z)
    → old ≡ get_or all worker old
    → ((other : ℕ) → other ≢ number → end_of other new.items ≡ end_of other old.items)
    → (other w : ℕ) → (w ≡ worker → other ≢ number) → end_at other w (lists (set all worker new)) ≡ end_at other w (lists all)
others_at [] worker number old new read stay other w apart = refl
others_at (v ∷ all) zero number old new read stay other zero apart =
    stay other (apart refl) ∙ ap (λ (u : Vec Numbered _). end_of other u.items) read
others_at (v ∷ all) zero number old new read stay other (suc w) apart = refl
others_at (v ∷ all) (suc worker) number old new read stay other zero apart = refl
others_at (v ∷ all) (suc worker) number old new read stay other (suc w) apart =
    others_at all worker number old new read stay other w (λ e. apart (ap suc e))
