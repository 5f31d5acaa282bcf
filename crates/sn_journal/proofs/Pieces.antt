-- The numbers of a text, by the first of them.
use Rattle.std.proofs.Common.{Bool, List, None, Option, Some, [], ap, append_assoc, arith, cond, drop, false, length, not, option_map, refl, sym, true, ℕ, ◌++◌, ◌<◌, ◌==◌, ◌∙◌, ◌∷◌, ◌≡◌}
use Rattle.std.proofs.lemmas.Bool.Decides.{nat_tests}
use Rattle.std.proofs.lemmas.List.{append-nil}
use Rattle.std.specs.Fmt.{decimal}
use Rattle.sn_names.specs.Parts.{starts}
use Rattle.sn_journal.specs.Cutting.{behind, front, is_no_space, number_of, numbers_behind, numbers_of, onto, pieces, pieces_behind, with_number}
use Rattle.sn_journal.specs.JournalText.{spaced}

cut_by : (b : Bool) (x : ℕ) (xs : List ℕ) → pieces xs ≡ front is_no_space xs ∷ pieces_behind (behind is_no_space xs)
    → cond b ([] ∷ pieces xs) (onto x (pieces xs))
    ≡ cond (not b) (x ∷ front is_no_space xs) [] ∷ pieces_behind (cond (not b) (behind is_no_space xs) (x ∷ xs))
cut_by true x xs more = refl
cut_by false x xs more = ap (onto x) more

-- the first piece, and those behind the space that follows it
pub pieces_first : (xs : List ℕ) → pieces xs ≡ front is_no_space xs ∷ pieces_behind (behind is_no_space xs)
unfolding pieces
pieces_first [] = refl
pieces_first (x ∷ xs) = cut_by (x == 32) x xs (pieces_first xs)

numbers_first : (rest : List ℕ) → 0 < length rest
    → numbers_behind rest ≡ with_number (number_of (front is_no_space (drop 1 rest)))
    (numbers_behind (behind is_no_space (drop 1 rest)))
numbers_first [] some = absurd (omega arith)
numbers_first (x ∷ xs) some = ap numbers_of (pieces_first xs)

-- the first piece is no number
pub numbers_none : (rest next word : List ℕ) → 0 < length rest → next ≡ drop 1 rest → word ≡ front is_no_space next
    → number_of word ≡ None
    → numbers_behind rest ≡ None
numbers_none rest next word some n w none =
    numbers_first rest some
    ∙ ap (λ o. with_number o (numbers_behind (behind is_no_space (drop 1 rest)))) (
    ap (λ t. number_of (front is_no_space t)) (sym n) ∙ ap number_of (sym w) ∙ none)

-- it is one
pub numbers_some : (rest next word after : List ℕ) (n : ℕ) → 0 < length rest → next ≡ drop 1 rest → word ≡ front is_no_space next
    → after ≡ behind is_no_space next → number_of word ≡ Some n
    → numbers_behind rest ≡ option_map (λ ns. n ∷ ns) (numbers_behind after)
numbers_some rest next word after n some e w a found =
    numbers_first rest some
    ∙ ap (λ t. with_number (number_of (front is_no_space t)) (numbers_behind (behind is_no_space t))) (sym e)
    ∙ ap (λ t. with_number (number_of t) (numbers_behind (behind is_no_space next))) (sym w)
    ∙ ap (λ o. with_number o (numbers_behind (behind is_no_space next))) found
    ∙ ap (λ t. option_map (λ ns. n ∷ ns) (numbers_behind t)) (sym a)

-- numbers that were read, in front of those of what is left
read_more : (ns : List ℕ) (n : ℕ) (more : Option (List ℕ))
    → option_map (λ (ms : List ℕ). ns ++ ms) (option_map (λ (ms : List ℕ). n ∷ ms) more)
    ≡ option_map (λ (ms : List ℕ). (ns ++ n ∷ []) ++ ms) more
read_more ns n None = refl
read_more ns n (Some ms) = ap Some (sym (append_assoc ns (n ∷ []) ms))

-- one more was read
pub read_next : (text rest next word after ns now : List ℕ) (n : ℕ) → now ≡ ns ++ n ∷ [] → 0 < length rest
    → next ≡ drop 1 rest → word ≡ front is_no_space next
    → after ≡ behind is_no_space next → number_of word ≡ Some n
    → numbers_behind text ≡ option_map (λ (ms : List ℕ). ns ++ ms) (numbers_behind rest)
    → numbers_behind text ≡ option_map (λ (ms : List ℕ). now ++ ms) (numbers_behind after)
read_next text rest next word after ns now n more some e w a found read =
    read
    ∙ ap (option_map (λ (ms : List ℕ). ns ++ ms)) (numbers_some rest next word after n some e w a found)
    ∙ read_more ns n (numbers_behind after)
    ∙ ap (λ (all : List ℕ). option_map (λ (ms : List ℕ). all ++ ms) (numbers_behind after)) (sym more)

pub read_none : (text rest next word ns : List ℕ) → 0 < length rest → next ≡ drop 1 rest → word ≡ front is_no_space next
    → number_of word ≡ None
    → numbers_behind text ≡ option_map (λ (ms : List ℕ). ns ++ ms) (numbers_behind rest) → numbers_behind text ≡ None
read_none text rest next word ns some e w none read =
    read ∙ ap (option_map (λ (ms : List ℕ). ns ++ ms)) (numbers_none rest next word some e w none)

-- a text begins with a space
space_first : (rest : List ℕ) → 0 < length rest → starts is_no_space rest ≡ false → rest ≡ 32 ∷ drop 1 rest
space_first [] some h = absurd (omega arith)
space_first (x ∷ xs) some h = let same : x ≡ 32 = grind (arith, nat_tests) in ap (λ y. y ∷ xs) same

spaced-push : (ns : List ℕ) (n : ℕ) → spaced (ns ++ n ∷ []) ≡ spaced ns ++ 32 ∷ decimal n
spaced-push [] n = ap (λ (t : List ℕ). 32 ∷ t) (append-nil (decimal n))
spaced-push (m ∷ ns) n =
    ap (λ (t : List ℕ). 32 ∷ decimal m ++ t) (spaced-push ns n) ∙ sym (append_assoc (32 ∷ decimal m) (spaced ns) (32 ∷ decimal n))

-- the text so far, and what is left
pub text_next : (text rest next word after ns now : List ℕ) (n : ℕ) → now ≡ ns ++ n ∷ [] → 0 < length rest
    → next ≡ drop 1 rest → next ≡ word ++ after
    → word ≡ decimal n → starts is_no_space rest ≡ false → text ≡ spaced ns ++ rest → text ≡ spaced now ++ after
text_next text rest next word after ns now n more some e parts digits space read =
    let line : rest ≡ 32 ∷ (decimal n ++ after) =
    space_first rest some space ∙ ap (λ (t : List ℕ). 32 ∷ t) (sym e ∙ parts ∙ ap (λ (t : List ℕ). t ++ after) digits) in
    read
    ∙ ap (λ (t : List ℕ). spaced ns ++ t) line
    ∙ sym (append_assoc (spaced ns) (32 ∷ decimal n) after)
    ∙ ap (λ (t : List ℕ). t ++ after) (sym (spaced-push ns n))
    ∙ ap (λ (all : List ℕ). spaced all ++ after) (sym more)
