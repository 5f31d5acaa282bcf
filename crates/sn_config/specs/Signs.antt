-- The byte between a place and a byte's value.
use Rattle.std.specs.Prelude.{Bool, ℕ, ◌==◌}

abbrev pub is_sign : ℕ → Bool
is_sign c = c == 61
