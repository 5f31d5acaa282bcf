-- A text cut into lines, and a line into tokens.
use Rattle.std.specs.Prelude.{Bool, List, [], cond, false, length, nat_le, nat_lt, not, slice_index, take, true, ℕ, ◌&&◌, ◌-◌, ◌==◌, ◌||◌, ◌∷◌}
use Rattle.sn_names.specs.Parts.{starts}

-- the longest front of bytes that pass, and what follows it
abbrev pub front : (ℕ → Bool) → List ℕ → List ℕ
front passes [] = []
front passes (x ∷ xs) = cond (passes x) (x ∷ front passes xs) []

abbrev pub behind : (ℕ → Bool) → List ℕ → List ℕ
behind passes [] = []
behind passes (x ∷ xs) = cond (passes x) (behind passes xs) (x ∷ xs)

abbrev pub is_feed : ℕ → Bool
is_feed x = x == 10

abbrev pub is_no_feed : ℕ → Bool
is_no_feed x = not (is_feed x)

-- a byte more at the front of the first line
abbrev pub onto : ℕ → List (List ℕ) → List (List ℕ)
onto x [] = (x ∷ []) ∷ []
onto x (line ∷ lines) = (x ∷ line) ∷ lines

-- cut at each byte 10; what follows the last is a line where it isn't empty
unfoldable pub lines_of : List ℕ → List (List ℕ)
lines_of [] = []
lines_of (x ∷ xs) = cond (is_feed x) ([] ∷ lines_of xs) (onto x (lines_of xs))

-- the line without one byte 13 just before its end
abbrev pub without_return : List ℕ → List ℕ
without_return line = cond (nat_lt 0 (length line) && slice_index line (length line - 1) == 13) (take (length line - 1) line) line

-- a byte more at the front of the first word, where the byte after it is of that word
abbrev pub joined : ℕ → Bool → List (List ℕ) → List (List ℕ)
joined x true [] = (x ∷ []) ∷ []
joined x true (word ∷ words) = (x ∷ word) ∷ words
joined x false words = (x ∷ []) ∷ words

-- the longest runs of bytes that pass
unfoldable pub runs : (ℕ → Bool) → List ℕ → List (List ℕ)
runs passes [] = []
runs passes (x ∷ xs) = cond (passes x) (joined x (starts passes xs) (runs passes xs)) (runs passes xs)

-- a space or a tab
abbrev pub is_blank : ℕ → Bool
is_blank x = x == 32 || x == 9

abbrev pub is_token_byte : ℕ → Bool
is_token_byte x = not (is_blank x)

-- what blanks part
abbrev pub tokens : List ℕ → List (List ℕ)
tokens line = runs is_token_byte line

-- the first token, or nothing where there is none, and what follows it
abbrev pub first_token : List ℕ → List ℕ
first_token line = front is_token_byte (behind is_blank line)

abbrev pub behind_token : List ℕ → List ℕ
behind_token line = behind is_token_byte (behind is_blank line)

-- nothing, or a token that begins with #
abbrev pub is_remark : List ℕ → Bool
is_remark token = not (starts (λ x. not (x == 35)) token)

-- a tab, or 32 to 126
abbrev pub is_line_byte : ℕ → Bool
is_line_byte x = x == 9 || (nat_le 32 x && nat_le x 126)
