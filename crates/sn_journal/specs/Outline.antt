-- What a text is read as.
use Rattle.std.specs.Prelude.{List, [], cond, length, true, ℕ, ◌+◌, ◌++◌, ◌==◌, ◌∷◌, ◌≡◌}
use Rattle.std.specs.List.{All, list_all}
use Rattle.sn_journal.specs.Cutting.{onto}
use Rattle.sn_journal.specs.JournalText.{fits, line_text, lines_text}
use Rattle.sn_journal.specs.declared.line.Line.{Line}

-- the text is just that of these lines, and each of their numbers is one of its type
pub record IsOutline (text : List ℕ) (lines : List Line) : Type 0 where
  pub spelled : text ≡ lines_text lines
  pub fit : list_all fits lines ≡ true

-- a text cut behind each byte 10; what follows the last one is a line where it isn't empty
unfoldable pub cut_lines : List ℕ → List (List ℕ)
cut_lines [] = []
cut_lines (x ∷ xs) = cond (x == 10) ((x ∷ []) ∷ cut_lines xs) (onto x (cut_lines xs))

-- a line of the form, with the byte 10 that ends it
pub record IsFormed (bytes : List ℕ) : Type 0 where
  pub line : Line
  pub fit : fits line ≡ true
  pub spelled : bytes ≡ line_text line

-- line n, counted from 1, is the first that isn't of the form
pub record IsFirstFault (text : List ℕ) (n : ℕ) : Type 0 where
  pub before : List (List ℕ)
  pub bytes : List ℕ
  pub behind : List (List ℕ)
  pub cut : cut_lines text ≡ before ++ bytes ∷ behind
  pub counted : length before + 1 ≡ n
  pub formed : All IsFormed before
  pub faulty : IsFormed bytes → ⊥
