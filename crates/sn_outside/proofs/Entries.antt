-- What a list of files has at a name.
use Rattle.std.proofs.Common.{◌≡◌, ℕ, ◌+◌, ◌<◌, ◌≤◌, false, cond, List, ◌∷◌, ◌++◌, ap, sym, ◌∙◌, refl, Some, None, length, drop, get_or, map, add-one, drop-cons, suc}
use Rattle.std.proofs.lemmas.List.{drop_all}
use Rattle.std.proofs.Math.Seq.{drop-append_seam}
use Rattle.std.specs.Ordering.{nat_cmp, is_eq, eq_by_cmp}
use Rattle.std.specs.declared.cmp.Ordering.TheVariants.{Less, Equal, Greater}
use Rattle.std.specs.Cmp.{tied_itself}
use Rattle.std.specs.Cmp.Lexicographic.{slice_cmp, nat_list_cmp_total}
use Rattle.std.specs.FinMap.{get, insert, get-empty, get-insert, slice_cmp-IsAntisymmetric, nat_cmp-IsAntisymmetric}
use Rattle.sn_outside.specs.Contents.{Contents, contents_of}

-- names that differ don't tie
differing : (q k : List ℕ) → (q ≡ k → ⊥) → eq_by_cmp (slice_cmp nat_cmp) q k ≡ false
differing q k differ = elim (slice_cmp nat_cmp q k) as (λ r. slice_cmp nat_cmp q k ≡ r → is_eq r ≡ false) [
  | Less ↦ λ e. refl
  | Equal ↦ λ e. absurd (differ (slice_cmp-IsAntisymmetric nat_cmp-IsAntisymmetric q k e))
  | Greater ↦ λ e. refl
] refl

-- a file at the front is found by its name
pub get_front : (e : List ℕ × List ℕ) (es : List (List ℕ × List ℕ)) (q : List ℕ) → q ≡ e.0 → get (contents_of (e ∷ es)) q ≡ Some e.1
get_front e es q same =
    get-insert nat_list_cmp_total (contents_of es) e.0 e.1 q
    ∙ ap (λ k. cond (eq_by_cmp (slice_cmp nat_cmp) q k) (Some e.1) (get (contents_of es) q)) (sym same)
    ∙ ap (λ r. cond (is_eq r) (Some e.1) (get (contents_of es) q)) (tied_itself nat_list_cmp_total q)

-- a file of another name is passed over
pub get_past : (e : List ℕ × List ℕ) (es : List (List ℕ × List ℕ)) (q : List ℕ) → (q ≡ e.0 → ⊥) → get (contents_of (e ∷ es)) q ≡ get (contents_of es) q
get_past e es q differ =
    get-insert nat_list_cmp_total (contents_of es) e.0 e.1 q
    ∙ ap (λ b. cond b (Some e.1) (get (contents_of es) q)) (differing q e.0 differ)

-- a write at one name leaves all others
pub get_other : (m : Contents) (k v q : List ℕ) → (q ≡ k → ⊥) → get (insert m k v) q ≡ get m q
get_other m k v q differ =
    get-insert nat_list_cmp_total m k v q
    ∙ ap (λ b. cond b (Some v) (get m q)) (differing q k differ)

-- the list from place i on, where there is one there
from_place : {E : Type 0} (files : List E) (i : ℕ) (x : E) → i < length files → x ≡ get_or files i x → drop i files ≡ x ∷ drop (i + 1) files
from_place files i x within is = drop-cons files i x within ∙ ap (λ y. y ∷ drop (suc i) files) (sym is) ∙ ap (λ k. x ∷ drop k files) (sym (add-one i))

module _ {E : Type 0} (entry : E → List ℕ × List ℕ) (files : List E) (i : ℕ) (q : List ℕ) where
  -- the file at place i, where it has the name
  pub get_here : (x : E) → i < length files → x ≡ get_or files i x → q ≡ (entry x).0 → get (contents_of (map entry (drop i files))) q ≡ Some (entry x).1
  get_here x within is same =
      ap (λ fs. get (contents_of (map entry fs)) q) (from_place files i x within is) ∙ get_front (entry x) (map entry (drop (i + 1) files)) q same

  -- the file at place i is passed over, where it has another name
  pub get_later : (x : E) → i < length files → x ≡ get_or files i x → (q ≡ (entry x).0 → ⊥) → get (contents_of (map entry (drop (i + 1) files))) q ≡ get (contents_of (map entry (drop i files))) q
  get_later x within is differ =
      sym (ap (λ fs. get (contents_of (map entry fs)) q) (from_place files i x within is) ∙ get_past (entry x) (map entry (drop (i + 1) files)) q differ)

  -- nothing is found past the end
  pub get_nowhere : length files ≤ i → get (contents_of (map entry (drop i files))) q ≡ None
  get_nowhere past = ap (λ fs. get (contents_of (map entry fs)) q) (drop_all i files past) ∙ get-empty (slice_cmp nat_cmp) q

-- what was appended to a list is the rest after it
pub appended : (had has more : List ℕ) → has ≡ had ++ more → more ≡ drop (length had) has
appended had has more is = sym (ap (drop (length had)) is ∙ drop-append_seam had more)

-- a file put in front is a write
pub put_front : {E : Type 0} (entry : E → List ℕ × List ℕ) (files old : List E) (x : E) (m : Contents) (k v : List ℕ) → files ≡ x ∷ old → contents_of (map entry old) ≡ m → (entry x).0 ≡ k → (entry x).1 ≡ v → contents_of (map entry files) ≡ insert m k v
put_front entry files old x m k v put was named held =
    ap (λ fs. contents_of (map entry fs)) put
    ∙ ap (λ n. insert n (entry x).0 (entry x).1) was
    ∙ ap (λ n. insert m n (entry x).1) named
    ∙ ap (insert m k) held
