-- What a line's kind and its numbers are read as.
use Rattle.std.specs.Prelude.{List, None, Option, Some, [], cond, option_map, ℕ, ◌&&◌, ◌∷◌}
use Rattle.sn_journal.specs.JournalText.{is_u32}
use Rattle.sn_journal.specs.declared.kind.Kind.{Kind}
use Rattle.sn_journal.specs.declared.kind.Kind.TheVariants as kind
use Rattle.sn_journal.specs.declared.line.Line.{Line}
use Rattle.sn_journal.specs.declared.line.Line.TheVariants as line

-- no number
abbrev pub no_number : Line → List ℕ → Option Line
no_number line [] = Some line
no_number line _ = None

-- a u32
abbrev pub one_small : List ℕ → Option ℕ
one_small (a ∷ []) = cond (is_u32 a) (Some a) None
one_small _ = None

-- a u64
abbrev pub one_large : List ℕ → Option ℕ
one_large (a ∷ []) = Some a
one_large _ = None

-- two u32
abbrev pub two_small : List ℕ → Option (ℕ × ℕ)
two_small (a ∷ b ∷ []) = cond (is_u32 a && is_u32 b) (Some (a, b)) None
two_small _ = None

-- a u32 and a u64
abbrev pub small_large : List ℕ → Option (ℕ × ℕ)
small_large (a ∷ b ∷ []) = cond (is_u32 a) (Some (a, b)) None
small_large _ = None

-- a u32 and two u64
abbrev pub small_two_large : List ℕ → Option (ℕ × ℕ × ℕ)
small_two_large (a ∷ b ∷ c ∷ []) = cond (is_u32 a) (Some (a, b, c)) None
small_two_large _ = None

-- an interlink, a position, a packet and its turn
abbrev pub drained : List ℕ → Option (ℕ × ℕ × ℕ × ℕ)
drained (a ∷ b ∷ c ∷ d ∷ []) = cond (is_u32 a && is_u32 c) (Some (a, b, c, d)) None
drained _ = None

-- the same, and a number of bytes
abbrev pub carried : List ℕ → Option (ℕ × ℕ × ℕ × ℕ × ℕ)
carried (a ∷ b ∷ c ∷ d ∷ e ∷ []) = cond (is_u32 a && is_u32 c && is_u32 e) (Some (a, b, c, d, e)) None
carried _ = None

-- the line of a kind with these numbers, if it has as many and they are of its types
abbrev pub line_from : Kind → List ℕ → Option Line
line_from kind.Round numbers = option_map line.Round (one_small numbers)
line_from kind.Hear numbers = option_map line.Hear (one_large numbers)
line_from kind.Breath numbers = no_number line.Breath numbers
line_from kind.Attach numbers = option_map (λ x. line.Attach x.0 x.1) (small_large numbers)
line_from kind.Unattached numbers = option_map (λ x. line.Unattached x.0 x.1 x.2) (small_two_large numbers)
line_from kind.Detach numbers = option_map (λ x. line.Detach x.0 x.1) (small_large numbers)
line_from kind.Reset numbers = option_map line.Reset (one_small numbers)
line_from kind.Seen numbers = option_map (λ x. line.Seen x.0 x.1) (two_small numbers)
line_from kind.Room numbers = option_map (λ x. line.Room x.0 x.1) (two_small numbers)
line_from kind.Put numbers = option_map (λ x. line.Put x.0 x.1 x.2 x.3 x.4) (carried numbers)
line_from kind.Take numbers = option_map (λ x. line.Take x.0 x.1 x.2 x.3 x.4) (carried numbers)
line_from kind.Drain numbers = option_map (λ x. line.Drain x.0 x.1 x.2 x.3) (drained numbers)
line_from kind.Got numbers = option_map (λ x. line.Got x.0 x.1) (small_large numbers)
line_from kind.Dry numbers = no_number line.Dry numbers
line_from kind.Gave numbers = option_map (λ x. line.Gave x.0 x.1) (small_large numbers)
line_from kind.Full numbers = option_map (λ x. line.Full x.0 x.1) (small_large numbers)
line_from kind.Worn numbers = option_map (λ x. line.Worn x.0 x.1) (small_large numbers)
line_from kind.Spent numbers = no_number line.Spent numbers
line_from kind.Stop numbers = no_number line.Stop numbers
line_from kind.Close numbers = no_number line.Close numbers
line_from kind.Reclaimed numbers = no_number line.Reclaimed numbers
line_from kind.Restart numbers = no_number line.Restart numbers
