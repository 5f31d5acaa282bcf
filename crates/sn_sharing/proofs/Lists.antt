-- Lists that are read and that grow, column by column.
use Rattle.std.proofs.Common.{◌≡◌, ℕ, zero, suc, ◌<◌, List, [], ◌∷◌, ◌++◌, length, get_or, map, slice_get, Some, None, All}
use Rattle.std.proofs.Common.{refl, sym, ap, ap₂, ◌∙◌, subst, arith, inl, inr, ◌⊎◌}
use Rattle.std.proofs.lemmas.Option.{slice_get-get_or}

pub some_same : {A : Type 0} (x y : A) → Some x ≡ Some y → x ≡ y
some_same x y e = cc

-- an element of a list with one more at its end is one of the list, or the last
pub old_or_last : {A : Type 0} (xs : List A) (y : A) (k : ℕ) (x : A) → slice_get (xs ++ y ∷ []) k ≡ Some x
    → (slice_get xs k ≡ Some x) ⊎ ((k ≡ length xs) × (y ≡ x))
old_or_last [] y zero x there = inr (refl, some_same y x there)
old_or_last [] y (suc k) x there = absurd (let e : None ≡ Some x = there in cc)
old_or_last (z ∷ xs) y zero x there = inl there
old_or_last (z ∷ xs) y (suc k) x there = elim (old_or_last xs y k x there) [
  | inl old ↦ inl old
  | inr last ↦ inr (ap suc last.0, last.1)
]

-- the element behind all of a list
pub last_there : {A : Type 0} (xs : List A) (y : A) → slice_get (xs ++ y ∷ []) (length xs) ≡ Some y
last_there [] y = refl
last_there (x ∷ xs) y = last_there xs y

-- a fact on each element holds of each with one more
pub each_more : {A : Type 0} (P : ℕ → A → Type 0) (xs : List A) (y : A) → ((k : ℕ) (x : A) → slice_get xs k ≡ Some x → P k x)
    → P (length xs) y → (k : ℕ) (x : A) → slice_get (xs ++ y ∷ []) k ≡ Some x → P k x
each_more P xs y each last k x there = elim (old_or_last xs y k x there) [
  | inl old ↦ each k x old
  | inr end ↦ subst (λ n. P n x) (sym end.0) (subst (λ z. P (length xs) z) end.1 last)
]

-- a column at a place, and where the rows end
pub column_at : {A B : Type 0} (f : A → B) (xs : List A) (k : ℕ) (x : A) (d : B) → slice_get xs k ≡ Some x
    → get_or (map f xs) k d ≡ f x
column_at f [] k x d there = absurd (let e : None ≡ Some x = there in cc)
column_at f (y ∷ xs) zero x d there = ap f (some_same y x there)
column_at f (y ∷ xs) (suc k) x d there = column_at f xs k x d there

pub column_there : {A B : Type 0} (f : A → B) (xs : List A) (k : ℕ) (x : A) → slice_get xs k ≡ Some x
    → slice_get (map f xs) k ≡ Some (f x)
column_there f [] k x there = absurd (let e : None ≡ Some x = there in cc)
column_there f (y ∷ xs) zero x there = ap (λ z. Some (f z)) (some_same y x there)
column_there f (y ∷ xs) (suc k) x there = column_there f xs k x there

-- each element of a column is one of a row
pub record FromRow {A B : Type 0} (f : A → B) (xs : List A) (k : ℕ) (y : B) : Type 0 where
  pub row : A
  pub there : slice_get xs k ≡ Some row
  pub is : f row ≡ y

pub from_row : {A B : Type 0} (f : A → B) (xs : List A) (k : ℕ) (y : B) → slice_get (map f xs) k ≡ Some y → FromRow f xs k y
from_row f [] k y there = absurd (let e : None ≡ Some y = there in cc)
from_row f (x ∷ xs) zero y there = record { row = x; there = refl; is = some_same (f x) y there }
from_row f (x ∷ xs) (suc k) y there =
    let h = from_row f xs k y there in record { row = h.row; there = h.there; is = h.is }

-- two columns that agree at each row are one
pub columns_agree : {A B : Type 0} (f g : A → B) (xs : List A) → ((k : ℕ) (x : A) → slice_get xs k ≡ Some x → f x ≡ g x)
    → map f xs ≡ map g xs
columns_agree f g [] each = refl
columns_agree f g (x ∷ xs) each =
    ap₂ (λ y ys. y ∷ ys) (each 0 x refl) (columns_agree f g xs (λ k z there. each (suc k) z there))

-- a fact on each element that is there, as `All`
pub all_there : {A : Type 0} (P : A → Type 0) (xs : List A) → ((k : ℕ) (x : A) → slice_get xs k ≡ Some x → P x) → All P xs
all_there P xs each = λ k d within. each k (get_or xs k d) (slice_get-get_or xs k d within)

-- what was read at a place is there
pub read_there : {A : Type 0} (xs : List A) (k : ℕ) (x : A) → k < length xs → x ≡ get_or xs k x → slice_get xs k ≡ Some x
read_there xs k x within read = slice_get-get_or xs k x within ∙ ap (λ y. Some y) (sym read)

pub map_twice : {A B C : Type 0} (f : A → B) (g : B → C) (xs : List A) → map g (map f xs) ≡ map (λ x. g (f x)) xs
map_twice f g [] = refl
map_twice f g (x ∷ xs) = ap (λ ys. g (f x) ∷ ys) (map_twice f g xs)

-- a row that there is
pub record ThereIs {A : Type 0} (xs : List A) (k : ℕ) : Type 0 where
  pub row : A
  pub there : slice_get xs k ≡ Some row

pub row_there : {A : Type 0} (xs : List A) (k : ℕ) → k < length xs → ThereIs xs k
row_there [] k within = absurd (omega (arith, within))
row_there (x ∷ xs) zero within = record { row = x; there = refl }
row_there (x ∷ xs) (suc k) within = let h = row_there xs k (omega (arith, within)) in record { row = h.row; there = h.there }
