-- The kind of a word, looked for from a place on.
use Rattle.std.proofs.Common.{Bool, List, None, Option, Some, [], ap, arith, drop, false, find, length, refl, slice_index_or, suc, true, zero, ℕ, ◌+◌, ◌<◌, ◌∙◌, ◌∷◌, ◌≡◌, if◌then◌else◌}
use Rattle.std.specs.Str.{bytes_eq}
use Rattle.sn_journal.specs.JournalText.{kind_word}
use Rattle.sn_journal.specs.KindWords.{all_kinds, kind_of}
use Rattle.sn_journal.specs.declared.kind.Kind.{Kind}
use Rattle.sn_journal.specs.declared.kind.Kind.TheVariants.{Round}

-- the kind of this word, from a place among all on
unfoldable pub kind_from : ℕ → List ℕ → Option Kind
kind_from i word = find (λ kind. bytes_eq word (kind_word kind)) (drop i all_kinds)

look_at : (p : Kind → Bool) (kinds : List Kind) (i : ℕ) → i < length kinds
    → find p (drop i kinds) ≡ find p (slice_index_or kinds i Round ∷ drop (suc i) kinds)
look_at p [] i within = absurd (omega arith)
look_at p (k ∷ kinds) zero within = refl
look_at p (k ∷ kinds) (suc i) within = look_at p kinds i (omega arith)

look_by : (p : Kind → Bool) (kinds : List Kind) (i : ℕ) (passes : Bool) → i < length kinds
    → p (slice_index_or kinds i Round) ≡ passes
    → find p (drop i kinds) ≡ (if passes then Some (slice_index_or kinds i Round) else find p (drop (suc i) kinds))
look_by p kinds i passes within e =
    look_at p kinds i within
    ∙ ap (λ b. if b then Some (slice_index_or kinds i Round) else find p (drop (suc i) kinds)) e

pub kind_first : (word : List ℕ) → kind_of word ≡ kind_from 0 word
unfolding kind_of kind_from
kind_first word = refl

pub kind_here : (i : ℕ) (word : List ℕ) → i < 22 → bytes_eq word (kind_word (slice_index_or all_kinds i Round)) ≡ true
    → kind_from i word ≡ Some (slice_index_or all_kinds i Round)
unfolding kind_from
kind_here i word within e = look_by (λ kind. bytes_eq word (kind_word kind)) all_kinds i true within e

pub kind_later : (i : ℕ) (word : List ℕ) → i < 22 → bytes_eq word (kind_word (slice_index_or all_kinds i Round)) ≡ false
    → kind_from i word ≡ kind_from (i + 1) word
unfolding kind_from
kind_later i word within e =
    let next : suc i ≡ i + 1 = omega arith in
    look_by (λ kind. bytes_eq word (kind_word kind)) all_kinds i false within e
    ∙ ap (λ j. find (λ kind. bytes_eq word (kind_word kind)) (drop j all_kinds)) next

pub kind_nowhere : (word : List ℕ) → kind_from 22 word ≡ None
unfolding kind_from
kind_nowhere word = refl

pub ruleset kind_places = (kind_first, kind_here, kind_later, kind_nowhere)
