-- A line's text is read as it.
use Rattle.std.proofs.Common.{List, Some, [], ap, append_assoc, arith, refl, sym, true, ℕ, ◌++◌, ◌<◌, ◌^◌, ◌∙◌, ◌∷◌, ◌≡◌}
use Rattle.std.proofs.lemmas.Bool.{and_from, and_parts}
use Rattle.std.proofs.lemmas.Bool.Decides.{nat_tests}
use Rattle.std.proofs.lemmas.Fmt.{decimal_is_IsNumeral}
use Rattle.std.proofs.lemmas.Str.Parse.{digit_from_value}
use Rattle.std.specs.Fmt.{decimal}
use Rattle.std.specs.List.{list_all}
use Rattle.std.specs.Str.Parse.{AllDigits}
use Rattle.std.specs.Prelude.{Bool, false}
use Rattle.sn_names.specs.Parts.{starts}
use Rattle.sn_journal.specs.Cutting.{behind, front, is_no_feed, is_no_space, line_by, number_of, numbers_behind, numbers_of, read_line, with_number}
use Rattle.sn_journal.specs.JournalText.{fits, is_u64, kind_word, line_kind, line_numbers, line_text, spaced, spelled}
use Rattle.sn_journal.specs.KindWords.{kind_of}
use Rattle.sn_journal.specs.declared.line.Line.{Line}
use Rattle.sn_journal.proofs.Digits.{number_found}
use Rattle.sn_journal.proofs.Fronts.{behind_word, front_word}
use Rattle.sn_journal.proofs.LineNumbers.{kind_found, line_found, numbers_wide, word_plain}
use Rattle.sn_journal.proofs.Pieces.{pieces_first}

-- what passes in both parts passes in the whole
all_append : (p : ℕ → Bool) (xs ys : List ℕ) → list_all p xs ≡ true → list_all p ys ≡ true → list_all p (xs ++ ys) ≡ true
all_append p [] ys a b = b
all_append p (x ∷ xs) ys a b =
    let parts = and_parts (p x) (list_all p xs) a in
    and_from _ _ parts.0 (all_append p xs ys parts.1 b)

-- decimal digits are no spaces and no line feeds
digits_plain : (ds : List ℕ) → AllDigits 10 ds → (list_all is_no_space ds ≡ true) × (list_all is_no_feed ds ≡ true)
digits_plain [] h = (refl, refl)
digits_plain (c ∷ cs) h =
    let d = digit_from_value c h.0 in
    let more = digits_plain cs h.1 in
    let space : is_no_space c ≡ true = grind (arith, nat_tests) in
    let feed : is_no_feed c ≡ true = grind (arith, nat_tests) in
    (and_from _ _ space more.0, and_from _ _ feed more.1)

below : (n : ℕ) → is_u64 n ≡ true → n < 2 ^ 64
below n e = grind (arith, nat_tests)

decimal_plain : (n : ℕ) → is_u64 n ≡ true → (list_all is_no_space (decimal n) ≡ true) × (list_all is_no_feed (decimal n) ≡ true)
decimal_plain n e = digits_plain (decimal n) (decimal_is_IsNumeral n (below n e)).0.1

-- numbers behind spaces begin with no other byte
spaced_starts : (ns : List ℕ) → starts is_no_space (spaced ns) ≡ false
spaced_starts [] = refl
spaced_starts (n ∷ ns) = refl

-- they are read as they are
spaced_read : (ns : List ℕ) → list_all is_u64 ns ≡ true → numbers_behind (spaced ns) ≡ Some ns
spaced_read [] e = refl
spaced_read (n ∷ ns) e =
    let p = and_parts (is_u64 n) (list_all is_u64 ns) e in
    let plain = (decimal_plain n p.0).0 in
    ap numbers_of (pieces_first (decimal n ++ spaced ns))
    ∙ ap (λ t. with_number (number_of t) (numbers_behind (behind is_no_space (decimal n ++ spaced ns)))) (
    front_word is_no_space (decimal n) (spaced ns) plain (spaced_starts ns))
    ∙ ap (λ t. with_number (number_of (decimal n)) (numbers_behind t)) (
    behind_word is_no_space (decimal n) (spaced ns) plain (spaced_starts ns))
    ∙ ap (λ o. with_number o (numbers_behind (spaced ns))) (number_found (decimal n) n (below n p.0) refl)
    ∙ ap (with_number (Some n)) (spaced_read ns p.1)

-- and have no line feed
spaced_plain : (ns : List ℕ) → list_all is_u64 ns ≡ true → list_all is_no_feed (spaced ns) ≡ true
spaced_plain [] e = refl
spaced_plain (n ∷ ns) e =
    let p = and_parts (is_u64 n) (list_all is_u64 ns) e in
    all_append is_no_feed (decimal n) (spaced ns) (decimal_plain n p.0).1 (spaced_plain ns p.1)

-- a line's text without the byte 10 that ends it
abbrev pub line_bytes : Line → List ℕ
line_bytes line = kind_word (line_kind line) ++ spaced (line_numbers line)

line_read : (line : Line) → fits line ≡ true → read_line (line_bytes line) ≡ Some line
unfolding read_line
line_read line e =
    let word = kind_word (line_kind line) in
    let ns = line_numbers line in
    let plain = (word_plain (line_kind line)).0 in
    ap (λ t. line_by (kind_of t) (numbers_behind (behind is_no_space (word ++ spaced ns)))) (
    front_word is_no_space word (spaced ns) plain (spaced_starts ns))
    ∙ ap (λ t. line_by (kind_of word) (numbers_behind t)) (behind_word is_no_space word (spaced ns) plain (spaced_starts ns))
    ∙ ap (λ o. line_by o (numbers_behind (spaced ns))) (kind_found (line_kind line))
    ∙ ap (line_by (Some (line_kind line))) (spaced_read ns (numbers_wide line e))
    ∙ line_found line e

-- a line's text is its bytes and the byte 10
pub line_ended : (line : Line) (rest : List ℕ) → line_text line ++ rest ≡ line_bytes line ++ 10 ∷ rest
unfolding spelled
line_ended line rest =
    let word = kind_word (line_kind line) in
    let ns = spaced (line_numbers line) in
    append_assoc word (ns ++ 10 ∷ []) rest
    ∙ ap (λ t. word ++ t) (append_assoc ns (10 ∷ []) rest)
    ∙ sym (append_assoc word ns (10 ∷ rest))

pub bytes_plain : (line : Line) → fits line ≡ true → list_all is_no_feed (line_bytes line) ≡ true
bytes_plain line e =
    all_append is_no_feed (kind_word (line_kind line)) (spaced (line_numbers line))
    (word_plain (line_kind line)).1 (spaced_plain (line_numbers line) (numbers_wide line e))

-- the line that a text begins with is read
pub first_read : (line : Line) (text rest : List ℕ) → fits line ≡ true → text ≡ line_text line ++ rest
    → read_line (front is_no_feed text) ≡ Some line
first_read line text rest e t =
    ap (λ t. read_line (front is_no_feed t)) (t ∙ line_ended line rest)
    ∙ ap read_line (front_word is_no_feed (line_bytes line) (10 ∷ rest) (bytes_plain line e) refl)
    ∙ line_read line e

-- and what follows it is what follows
pub first_behind : (line : Line) (text rest : List ℕ) → fits line ≡ true → text ≡ line_text line ++ rest
    → behind is_no_feed text ≡ 10 ∷ rest
first_behind line text rest e t =
    ap (behind is_no_feed) (t ∙ line_ended line rest)
    ∙ behind_word is_no_feed (line_bytes line) (10 ∷ rest) (bytes_plain line e) refl
