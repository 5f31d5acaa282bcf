-- The plain spelling of a text, by its first line.
use Rattle.std.proofs.Common.{List, [], ap, append_assoc, arith, drop, length, sym, ℕ, ◌++◌, ◌<◌, ◌∙◌, ◌∷◌, ◌≡◌}
use Rattle.std.proofs.lemmas.List.{append-nil}
use Rattle.std.specs.Prelude.{flat_map}
use Rattle.sn_scenario.specs.Cutting.{behind, front, is_no_feed}
use Rattle.sn_scenario.specs.PlainText.{plain_line, plain_text}
use Rattle.sn_scenario.proofs.LineSequence.{lines-nil, lines_first}

-- the first line, and the lines of what follows it
pub plain_first : (text : List ℕ) → 0 < length text → plain_text text ≡ plain_line (front is_no_feed text) ++ plain_text (drop 1 (behind is_no_feed text))
plain_first text some = ap (flat_map plain_line) (lines_first text some)

-- no line is left
pub plain_end : (text : List ℕ) → length text ≡ 0 → plain_text text ≡ []
plain_end [] h = ap (flat_map plain_line) lines-nil
plain_end (x ∷ xs) h = absurd (omega arith)

-- what was written and what is left stay the whole text
pub spelled_next : (plain now line rest behind_it whole : List ℕ) → 0 < length rest → line ≡ front is_no_feed rest → behind_it ≡ drop 1 (behind is_no_feed rest) → now ≡ plain ++ plain_line line → plain ++ plain_text rest ≡ whole → now ++ plain_text behind_it ≡ whole
spelled_next plain now line rest behind_it whole some line_is behind_is now_is kept =
    ap (λ (b : List ℕ). b ++ plain_text behind_it) now_is
    ∙ append_assoc plain (plain_line line) (plain_text behind_it)
    ∙ ap (λ (b : List ℕ). plain ++ b) (
    ap (λ l. plain_line l ++ plain_text behind_it) line_is
    ∙ ap (λ b. plain_line (front is_no_feed rest) ++ plain_text b) behind_is
    ∙ sym (plain_first rest some))
    ∙ kept

pub spelled_end : (plain rest whole : List ℕ) → length rest ≡ 0 → plain ++ plain_text rest ≡ whole → plain ≡ whole
spelled_end plain rest whole none kept = sym (append-nil plain) ∙ ap (λ (b : List ℕ). plain ++ b) (sym (plain_end rest none)) ∙ kept
