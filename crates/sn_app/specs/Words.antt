-- The state words of an interlink: `rx + 4 * tx`, each field 0 absent, 1 up, 2 gone.
use Rattle.std.specs.Prelude.{ℕ, ◌==◌, ◌&&◌, ◌/◌, ◌%◌, Bool, not, nat_lt}
use Rattle.sn_core.specs.declared.events.Side.{Side}
use Rattle.sn_core.specs.declared.events.Side.TheVariants.{Tx, Rx}

-- the field of an end, and that of the other end
abbrev pub field_in : Side → ℕ → ℕ
field_in Rx word = word % 4
field_in Tx word = word / 4

abbrev pub other_side : Side → Side
other_side Tx = Rx
other_side Rx = Tx

-- both fields are 0, 1 or 2
abbrev pub is_word : ℕ → Bool
is_word word = nat_lt (word / 4) 3 && nat_lt (word % 4) 3

-- an end is up
abbrev pub is_up_in : Side → ℕ → Bool
is_up_in side word = field_in side word == 1

-- no end is up, and one is gone: what is left is emptied before anybody attaches again
abbrev pub is_down : ℕ → Bool
is_down word = is_word word && (not (word == 0) && (not (is_up_in Tx word) && not (is_up_in Rx word)))

-- a word that an end may attach from
abbrev pub is_open_to : Side → ℕ → Bool
is_open_to side word = is_word word && (not (is_down word) && not (is_up_in side word))

-- a word that an end detaches from
abbrev pub is_held_by : Side → ℕ → Bool
is_held_by side word = is_word word && is_up_in side word

-- the end that detaches from this word closes the interlink: the other one isn't up
abbrev pub is_closer : Side → ℕ → Bool
is_closer side word = not (is_up_in (other_side side) word)
