-- A text cut at a byte, and what its pieces are read as.
use Rattle.std.specs.Prelude.{Bool, List, None, Option, Some, [], cond, not, option_map, ℕ, ◌&&◌, ◌==◌, ◌∷◌}
use Rattle.std.specs.Fmt.{decimal}
use Rattle.std.specs.Str.{bytes_eq}
use Rattle.std.specs.Str.Parse.{digits_value}
use Rattle.sn_journal.specs.JournalText.{is_u64}
use Rattle.sn_journal.specs.KindWords.{kind_of}
use Rattle.sn_journal.specs.LineReading.{line_from}
use Rattle.sn_journal.specs.declared.kind.Kind.{Kind}
use Rattle.sn_journal.specs.declared.line.Line.{Line}

-- the longest front of bytes that pass, and what follows it
abbrev pub front : (ℕ → Bool) → List ℕ → List ℕ
front passes [] = []
front passes (x ∷ xs) = cond (passes x) (x ∷ front passes xs) []

abbrev pub behind : (ℕ → Bool) → List ℕ → List ℕ
behind passes [] = []
behind passes (x ∷ xs) = cond (passes x) (behind passes xs) (x ∷ xs)

-- no byte 10
abbrev pub is_no_feed : ℕ → Bool
is_no_feed x = not (x == 10)

-- no space
abbrev pub is_no_space : ℕ → Bool
is_no_space x = not (x == 32)

-- a byte more at the front of the first piece
abbrev pub onto : ℕ → List (List ℕ) → List (List ℕ)
onto x [] = (x ∷ []) ∷ []
onto x (piece ∷ pieces) = (x ∷ piece) ∷ pieces

-- what spaces part
unfoldable pub pieces : List ℕ → List (List ℕ)
pieces [] = [] ∷ []
pieces (x ∷ xs) = cond (x == 32) ([] ∷ pieces xs) (onto x (pieces xs))

-- the pieces behind the space that a text begins with
abbrev pub pieces_behind : List ℕ → List (List ℕ)
pieces_behind [] = []
pieces_behind (x ∷ xs) = pieces xs

-- the u64 that a text writes without leading zeros
unfoldable pub number_of : List ℕ → Option ℕ
number_of text =
    cond (bytes_eq text (decimal (digits_value 10 text)) && is_u64 (digits_value 10 text)) (Some (digits_value 10 text)) None

-- a number in front of others
abbrev pub with_number : Option ℕ → Option (List ℕ) → Option (List ℕ)
with_number None more = None
with_number (Some n) more = option_map (λ ns. n ∷ ns) more

-- the numbers of all pieces
abbrev pub numbers_of : List (List ℕ) → Option (List ℕ)
numbers_of [] = Some []
numbers_of (piece ∷ pieces) = with_number (number_of piece) (numbers_of pieces)

-- the numbers behind the space that a text begins with
abbrev pub numbers_behind : List ℕ → Option (List ℕ)
numbers_behind text = numbers_of (pieces_behind text)

-- the line of a kind and numbers, if both were read
abbrev pub line_by : Option Kind → Option (List ℕ) → Option Line
line_by None numbers = None
line_by (Some kind) None = None
line_by (Some kind) (Some numbers) = line_from kind numbers

-- the line that a text without its byte 10 is
unfoldable pub read_line : List ℕ → Option Line
read_line text = line_by (kind_of (front is_no_space text)) (numbers_behind (behind is_no_space text))
