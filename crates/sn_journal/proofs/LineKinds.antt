-- What one line is read as, by its kind and its numbers.
use Rattle.std.proofs.Common.{IfSome, List, None, Option, Some, [], ap, append_assoc, sym, ℕ, ◌++◌, ◌∙◌, ◌∷◌, ◌≡◌}
use Rattle.sn_journal.specs.Cutting.{behind, front, is_no_space, line_by, numbers_behind, read_line}
use Rattle.sn_journal.specs.JournalText.{kind_word, line_kind, line_numbers, line_text, spaced, spelled}
use Rattle.sn_journal.specs.KindWords.{kind_of}
use Rattle.sn_journal.specs.declared.kind.Kind.{Kind}
use Rattle.sn_journal.specs.declared.line.Line.{Line}

pub no_kind : (text word : List ℕ) → word ≡ front is_no_space text → None ≡ kind_of word → None ≡ read_line text
unfolding read_line
no_kind text word w none =
    sym (ap (λ t. line_by (kind_of t) (numbers_behind (behind is_no_space text))) (sym w)
    ∙ ap (λ k. line_by k (numbers_behind (behind is_no_space text))) (sym none))

pub known_kind : (text word rest : List ℕ) (kind : Kind) (numbers : Option (List ℕ)) → word ≡ front is_no_space text
    → rest ≡ behind is_no_space text → Some kind ≡ kind_of word → numbers_behind rest ≡ numbers
    → line_by (Some kind) numbers ≡ read_line text
unfolding read_line
known_kind text word rest kind numbers w r k n =
    sym (ap (λ t. line_by (kind_of t) (numbers_behind (behind is_no_space text))) (sym w)
    ∙ ap (λ t. line_by (kind_of word) (numbers_behind t)) (sym r)
    ∙ ap (λ o. line_by o (numbers_behind rest)) (sym k)
    ∙ ap (line_by (Some kind)) n)

line_spelled : (text word rest : List ℕ) (kind : Kind) (numbers : List ℕ) (line : Line) → text ≡ word ++ rest
    → word ≡ kind_word kind
    → rest ≡ spaced numbers → line_kind line ≡ kind → line_numbers line ≡ numbers → text ++ 10 ∷ [] ≡ line_text line
unfolding spelled
line_spelled text word rest kind numbers line t w r k n =
    ap (λ (s : List ℕ). s ++ 10 ∷ []) (
    t ∙ ap (λ s. s ++ rest) (w ∙ ap kind_word (sym k))
    ∙ ap (λ (s : List ℕ). kind_word (line_kind line) ++ s) (r ∙ ap spaced (sym n)))
    ∙ append_assoc (kind_word (line_kind line)) (spaced (line_numbers line)) (10 ∷ [])

-- the line that was read, if one was, is spelled so
pub read_spelled : (text word rest : List ℕ) (kind : Kind) (numbers : List ℕ) (read : Option Line) → text ≡ word ++ rest
    → word ≡ kind_word kind → rest ≡ spaced numbers → IfSome read (λ line. line_kind line ≡ kind)
    → IfSome read (λ line. line_numbers line ≡ numbers) → IfSome read (λ line. text ++ 10 ∷ [] ≡ line_text line)
read_spelled text word rest kind numbers None t w r k n = k
read_spelled text word rest kind numbers (Some line) t w r k n = line_spelled text word rest kind numbers line t w r k n
